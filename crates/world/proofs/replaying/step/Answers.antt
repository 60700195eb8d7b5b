use Rattle.std.proofs.Common.{◌≡◌, false, true, [], ◌∷◌, ◌++◌, length, is_ok, vec_items, Ok, Err, Result, sym, refl, ap, ◌∙◌, subst, arith}
use Rattle.std.specs.Result.{IfErr, IfOk, IsErrAnd, MatchResult}
use Rattle.std.specs.Vec.{with_items}
use Rattle.content.specs.declared.refusal.Refusal.{Refusal}
use Rattle.content.specs.declared.refusal.Refusal.TheVariants.{NoMemory}
use Rattle.world.specs.declared.call.Reply.{Reply}
use Rattle.world.proofs.Replays.{given_ok, refused, stepped}
use Rattle.world.proofs.Works.{refill}
use Rattle.world.proofs.replaying.step.Goals as goal

-- an error that stands for another, passed on
passed : {V E X : Type 0} (r : Result V E) (s : Result V Refusal) (e : Refusal) (t : Result X Refusal) → MatchResult r (λ v. s ≡ Ok v) (λ _. IsErrAnd s (λ x. x ≡ NoMemory)) → s ≡ Err e →
    IsErrAnd t (λ x. x ≡ e) → IfErr t (λ x. x ≡ NoMemory)
passed (Ok v) s e t m was p = absurd (cc)
passed (Err x) s e (Ok y) m was p = absurd p
passed (Err x) s e (Err y) m was p = p ∙ subst (λ z. IsErrAnd z (λ x. x ≡ NoMemory)) was m

pub returns-in_err-outbox-clause-memory : goal.returns-in_err-outbox-clause-memory
returns-in_err-outbox-clause-memory g c = passed c.vec.result c.map_err.result c.in_err-outbox.field-0.0 c.from_residual.result c.map_err.ensures.cases c.in_err-outbox.was c.from_residual.ensures.1

pub returns-in_err-outbox-clause-does : goal.returns-in_err-outbox-clause-does
returns-in_err-outbox-clause-does g c w h r stands =
    refused g.C.Content.kind w c.args.call h c.args.desks.now (vec_items c.args.replies.now) _ c.args.desks.now (vec_items c.args.replies.now) c.from_residual.ensures.0
    (passed c.vec.result c.map_err.result c.in_err-outbox.field-0.0 c.from_residual.result c.map_err.ensures.cases c.in_err-outbox.was c.from_residual.ensures.1) refl refl

pub returns-in_err-map_err-clause-memory : goal.returns-in_err-map_err-clause-memory
returns-in_err-map_err-clause-memory g c =
    passed c.reserve.result c.map_err-2.result c.in_err-map_err.field-0.0 c.from_residual-in_err-map_err.result c.map_err-2.ensures.cases c.in_err-map_err.was c.from_residual-in_err-map_err.ensures.1

pub returns-in_err-map_err-clause-does : goal.returns-in_err-map_err-clause-does
returns-in_err-map_err-clause-does g c w h r stands =
    refused g.C.Content.kind w c.args.call h c.args.desks.now (vec_items c.args.replies.now) _ c.args.desks.now (vec_items c.reserve.new.self) c.from_residual-in_err-map_err.ensures.0
    (passed c.reserve.result c.map_err-2.result c.in_err-map_err.field-0.0 c.from_residual-in_err-map_err.result c.map_err-2.ensures.cases c.in_err-map_err.was c.from_residual-in_err-map_err.ensures.1)
    refl c.reserve.ensures.items

pub call_at-answer-requires : goal.call_at-answer-requires
call_at-answer-requires g c = c.requires-raw.1.1.1.1.1.1

pub push_reserved-requires : goal.push_reserved-requires
push_reserved-requires g c = omega (arith, given_ok c.reserve.result (sym c.in_ok-map_err.ensures.variant) c.reserve.ensures.ok)

-- what was made without an error
made : {V E D : Type 0} (r : Result V E) (s : Result V D) (v : V) (P : V → Type 0) (Q : E → Type 0) → MatchResult r (λ x. s ≡ Ok x) Q → is_ok s ≡ is_ok r → s ≡ Ok v → IfOk r P → P v
made (Ok x) s v P Q cases variant was p = let e : x ≡ v = cc in subst P e p
made (Err e) s v P Q cases variant was p = let z : true ≡ false = sym (ap is_ok was) ∙ variant in absurd (cc)

pub returns-clause-does : goal.returns-clause-does
returns-clause-does g c w h r stands =
    let reply : Reply = record { answer = c.call_at-answer.result; outbox = with_items c.in_ok-outbox.outbox c.call_at-answer.new.outbox } in
    let zeros = made c.vec.result c.map_err.result c.in_ok-outbox.outbox _ _ c.map_err.ensures.cases c.map_err.ensures.variant c.in_ok-outbox.was c.vec.ensures.items_if_clones_equal in
    stepped g.C.Content.kind w c.args.call h c.args.desks.now c.call_at-answer.new.desks (vec_items c.args.replies.now) (vec_items c.push_reserved.new.self) c.as_mut_slice.result.now
    c.call_at-answer.new.outbox reply (c.as_mut_slice.ensures.value ∙ zeros (λ y e. e)) (c.call_at-answer.ensures.does w h r stands)
    (refill c.in_ok-outbox.outbox c.call_at-answer.new.outbox (c.call_at-answer.auto.outbox ∙ ap length c.as_mut_slice.ensures.value))
    (c.push_reserved.ensures.items ∙ ap (λ z. z ++ (reply ∷ [])) c.reserve.ensures.items)
