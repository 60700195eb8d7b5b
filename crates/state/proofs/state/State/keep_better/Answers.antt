use Rattle.std.proofs.Common.{Some, sym, ap, ◌∙◌}
use Rattle.wire.specs.Meaning.{plain_certificate}
use Rattle.state.specs.Parts.{with_best}
use Rattle.state.proofs.Certificates.{better-no, better_yes}
use Rattle.state.proofs.state.State.keep_better.Goals as goal

pub returns-else-passes : goal.returns-else-passes
returns-else-passes g c =
    ap (λ best. with_best best c.args.self.now)
    (sym (better-no (plain_certificate c.args.c.now) c.args.self.now.best c.if-passes.ensures))

pub returns-then-passes : goal.returns-then-passes
returns-then-passes g c =
    ap (λ best. with_best best c.args.self.now)
    (ap (λ kept. Some kept) c.from.ensures ∙
    sym (better_yes (plain_certificate c.args.c.now) c.args.self.now.best c.if-passes.ensures))
