use Rattle.std.proofs.Common.{ℕ, List, [], ◌∷◌, sym, ap, ◌∙◌}
use Rattle.wire.specs.Asked.{judge, asked, asked_one, row_asked}
use Rattle.wire.specs.Meaning.{plain}
use Rattle.wire.proofs.Located.{vote-lies, certified_lies}
use Rattle.wire.proofs.asking.ask_all.Goals as goal

pub part-body-requires : goal.part-body-requires
part-body-requires g c = (vote-lies g.C.Content.kind g.row.S c.args.seats.n _ _ _ _ _ c.in-Vote.is c.requires.back c.requires.lawful).within

pub part-body-requires-in-Certified : goal.part-body-requires-in-Certified
part-body-requires-in-Certified g c = (certified_lies g.C.Content.kind g.row.S c.args.seats.n _ _ _ c.in-Certified.is c.requires.back c.requires.lawful).within

pub returns-in-Proposal-clause-value : goal.returns-in-Proposal-clause-value
returns-in-Proposal-clause-value g c =
    c.ask_proposal.ensures.value ∙
    ap (λ m. judge (g.K.SealCheck.accepts c.args.check.now) (asked g.C.Content.kind g.row.S c.args.seats.n (g.Q.Rota.leads c.args.rota.now) (plain m)))
    (sym c.in-Proposal.is)

pub returns-in-Vote-clause-value : goal.returns-in-Vote-clause-value
returns-in-Vote-clause-value g c =
    let own = vote-lies g.C.Content.kind g.row.S c.args.seats.n _ _ _ _ _ c.in-Vote.is c.requires.back c.requires.lawful in
    let accepts = g.K.SealCheck.accepts c.args.check.now in
    c.ask.ensures.value ∙
    ap (λ (body : List ℕ). judge accepts (asked_one c.in-Vote.seat (2 ∷ body) c.in-Vote.seal.now ∷ [])) (c.part-body.ensures ∙ own.is) ∙
    ap (λ m. judge accepts (asked g.C.Content.kind g.row.S c.args.seats.n (g.Q.Rota.leads c.args.rota.now) (plain m))) (sym c.in-Vote.is)

pub returns-in-Certified-clause-value : goal.returns-in-Certified-clause-value
returns-in-Certified-clause-value g c =
    let own = certified_lies g.C.Content.kind g.row.S c.args.seats.n _ _ _ c.in-Certified.is c.requires.back c.requires.lawful in
    let accepts = g.K.SealCheck.accepts c.args.check.now in
    c.ask_row.ensures.value ∙
    ap (λ (body : List ℕ). judge accepts (row_asked g.row.S c.in-Certified.c.mask 0 c.args.seats.n (2 ∷ body) c.in-Certified.c.seals.now))
    (c.part-body-in-Certified.ensures ∙ own.is) ∙
    ap (λ m. judge accepts (asked g.C.Content.kind g.row.S c.args.seats.n (g.Q.Rota.leads c.args.rota.now) (plain m))) (sym c.in-Certified.is)
