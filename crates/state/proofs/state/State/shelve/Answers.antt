use Rattle.std.proofs.Common.{cond, sym, ap, ◌∙◌}
use Rattle.wire.specs.Meaning.{plain_certificate}
use Rattle.state.specs.Parts.{with_committed}
use Rattle.state.proofs.Certificates.{rises_if, shelve-is, stays_if}
use Rattle.state.proofs.state.State.shelve.Goals.{then-here, else-here}
use Rattle.state.proofs.state.State.shelve.Goals as goal

pub returns-then-not-commits-clause-state : goal.returns-then-not-commits-clause-state
returns-then-not-commits-clause-state g c =
    let cert = plain_certificate c.args.c.now in
    let t = c.keep_better.new.self in
    shelve-is cert c.args.self.now c.here-here.result c.commits-commits.result t c.if-here.self c.if-here.self
    c.here-here.ensures c.commits-commits.ensures c.keep_better.ensures
    (elim c.if-here.branch [
      | then-here w ↦ rises_if cert c.args.self.now c.here-here.result t c.if-here.self w.if-here.true (w.self-is ∙ w.rise.ensures)
      | else-here w ↦ stays_if cert c.args.self.now c.here-here.result t c.if-here.self w.if-here.false w.self-is
    ])
    (sym (ap (λ f. cond f (with_committed cert.block c.if-here.self) c.if-here.self) c.if-not-commits.true))

pub returns-clause-state : goal.returns-clause-state
returns-clause-state g c =
    let cert = plain_certificate c.args.c.now in
    let t = c.keep_better.new.self in
    shelve-is cert c.args.self.now c.here-here.result c.commits-commits.result t c.if-here.self (with_committed cert.block c.if-here.self)
    c.here-here.ensures c.commits-commits.ensures c.keep_better.ensures
    (elim c.if-here.branch [
      | then-here w ↦ rises_if cert c.args.self.now c.here-here.result t c.if-here.self w.if-here.true (w.self-is ∙ w.rise.ensures)
      | else-here w ↦ stays_if cert c.args.self.now c.here-here.result t c.if-here.self w.if-here.false w.self-is
    ])
    (sym (ap (λ f. cond f (with_committed cert.block c.if-here.self) c.if-here.self) c.if-not-commits.false))
