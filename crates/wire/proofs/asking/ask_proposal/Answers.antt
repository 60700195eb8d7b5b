use Rattle.std.proofs.Common.{ℕ, List, [], ◌∷◌, sym, refl, ap, ◌∙◌}
use Rattle.std.proofs.lemmas.Result.{err_from_is_err_and}
use Rattle.wire.specs.Asked.{parent_asked, row_asked}
use Rattle.wire.specs.Meaning.{plain_parent}
use Rattle.wire.proofs.Located.{proposal-lies, parent-lies}
use Rattle.wire.proofs.RowsAsked.{first-no, first_yes}
use Rattle.wire.proofs.asking.ask_proposal.Goals as goal

pub returns-in_err-ask-clause-value : goal.returns-in_err-ask-clause-value
returns-in_err-ask-clause-value g c =
    let k = g.C.Content.kind in
    let p = err_from_is_err_and c.from_residual.result c.from_residual.ensures.1 in
    let own = proposal-lies k g.row.S c.args.seats.n _ _ _ _ c.requires.back c.requires.lawful in
    let others = parent_asked k g.row.S c.args.seats.n (g.Q.Rota.leads c.args.rota.now) (plain_parent c.args.parent.now) in
    rw (p.1, p.2)
    (first-no (g.K.SealCheck.accepts c.args.check.now) _ _ 1 _ _ c.args.seal.now others _ c.leader-leader.ensures (c.part.ensures ∙ own.is)
    c.in_err-ask.ensures.value)

pub returns-in-None-clause-value : goal.returns-in-None-clause-value
returns-in-None-clause-value g c =
    let k = g.C.Content.kind in
    let own = proposal-lies k g.row.S c.args.seats.n _ _ _ _ c.requires.back c.requires.lawful in
    let leader = g.Q.Rota.leads c.args.rota.now in
    let accepts = g.K.SealCheck.accepts c.args.check.now in
    first_yes accepts _ _ 1 _ _ c.args.seal.now [] (parent_asked k g.row.S c.args.seats.n leader (plain_parent c.args.parent.now)) _ accepts
    c.leader-leader.ensures (c.part.ensures ∙ own.is) (ap (λ p. parent_asked k g.row.S c.args.seats.n leader (plain_parent p)) (sym c.in-None.is)) refl
    c.in_ok-ask.ensures.value refl

pub returns-in-Some-clause-value : goal.returns-in-Some-clause-value
returns-in-Some-clause-value g c =
    let k = g.C.Content.kind in
    let own = proposal-lies k g.row.S c.args.seats.n _ _ _ _ c.requires.back c.requires.lawful in
    let below =
    parent-lies k g.row.S c.args.seats.n _ _ c.args.parent.now c.in-Some.c _ c.in-Some.is c.requires.back c.requires.lawful
    in
    let leader = g.Q.Rota.leads c.args.rota.now in
    let row = λ (body : List ℕ). row_asked g.row.S c.in-Some.c.mask 0 c.args.seats.n (2 ∷ body) c.in-Some.c.seals.now in
    first_yes (g.K.SealCheck.accepts c.args.check.now) _ _ 1 _ _ c.args.seal.now (row c.part-in-Some.result.now)
    (parent_asked k g.row.S c.args.seats.n leader (plain_parent c.args.parent.now)) _ (g.K.SealCheck.accepts c.ask.new.check)
    c.leader-leader.ensures (c.part.ensures ∙ own.is)
    (ap row (c.part-in-Some.ensures ∙ below.is) ∙ ap (λ p. parent_asked k g.row.S c.args.seats.n leader (plain_parent p)) (sym c.in-Some.is))
    c.ask.ensures.kept c.in_ok-ask.ensures.value c.ask_row.ensures.value
