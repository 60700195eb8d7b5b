-- Histories at the three seats, replayed: each call with its answer and both sound seats after it.
use Rattle.std.proofs.Common.{◌≡◌, ℕ, cond, eqb, ◌⊎◌, List, [], ◌∷◌, Result, sym, refl, ap, subst, inl, inr}
use Rattle.std.proofs.lemmas.Bool.{eqb-true, or_cases}
use Rattle.content.specs.declared.refusal.Refusal.{Refusal}
use Rattle.state.specs.Parts.{new_state}
use Rattle.state.specs.Sends.{Outcome}
use Rattle.agreement.specs.History.{Desk, Event, History, after, clock, desk, outcome, result}
use Rattle.agreement.specs.Setting.{Sound}
use Rattle.agreement.specs.Witness.{one_byte, three}

-- a call, its answer, and both sound seats after it
pub record Stamp : Type 0 where
  pub event : Event
  pub answer : Result (Outcome 1 ℕ) Refusal
  pub one : Desk 1 ℕ
  pub two : Desk 1 ℕ

abbrev pub new_desk : Desk 1 ℕ
new_desk = record { state = new_state; blocks = [] }

abbrev pub one_of : List Stamp → Desk 1 ℕ
one_of [] = new_desk
one_of (s ∷ t) = s.one

abbrev pub two_of : List Stamp → Desk 1 ℕ
two_of [] = new_desk
two_of (s ∷ t) = s.two

abbrev pub desk_of : ℕ → List Stamp → Desk 1 ℕ
desk_of i t = cond (eqb i 1) (one_of t) (two_of t)

abbrev pub now_of : ℕ → List Stamp → ℕ
now_of i t = (desk_of i t).state.now

abbrev pub stamp : Event → List Stamp → Stamp
stamp e t =
    let a : Desk 1 ℕ = after one_byte three 1 e.what (one_of t) in
    let b : Desk 1 ℕ = after one_byte three 2 e.what (two_of t) in
    record {
      event = e;
      answer = outcome one_byte three e.who e.what (desk_of e.who t);
      one = cond (eqb 1 e.who) a (one_of t);
      two = cond (eqb 2 e.who) b (two_of t);
    }

unfoldable pub trace : History → List Stamp
trace [] = []
trace (e ∷ h) = let t : List Stamp = trace h in stamp e t ∷ t

pub one-is : (h : History) → desk 1 one_byte three 1 h ≡ one_of (trace h)
unfolding desk trace
one-is [] = refl
one-is (e ∷ h) = ap (λ (d : Desk 1 ℕ). cond (eqb 1 e.who) (after one_byte three 1 e.what d) d) (one-is h)

pub two_is : (h : History) → desk 1 one_byte three 2 h ≡ two_of (trace h)
unfolding desk trace
two_is [] = refl
two_is (e ∷ h) = ap (λ (d : Desk 1 ℕ). cond (eqb 2 e.who) (after one_byte three 2 e.what d) d) (two_is h)

-- the sound seats
pub sound-is : (i : ℕ) → Sound three i → (i ≡ 1) ⊎ (i ≡ 2)
sound-is i s =
    elim (or_cases (eqb i 1) (eqb i 2) s) [ inl e ↦ inl (eqb-true i 1 e) | inr e ↦ inr (eqb-true i 2 e) ]

pub desk-is : (i : ℕ) → Sound three i → (h : History) → desk 1 one_byte three i h ≡ desk_of i (trace h)
desk-is i s h =
    elim (sound-is i s) [
      | inl e ↦ subst (λ (j : ℕ). desk 1 one_byte three j h ≡ desk_of j (trace h)) (sym e) (one-is h)
      | inr e ↦ subst (λ (j : ℕ). desk 1 one_byte three j h ≡ desk_of j (trace h)) (sym e) (two_is h)
    ]

pub clock-is : (i : ℕ) → Sound three i → (h : History) → clock 1 one_byte three i h ≡ now_of i (trace h)
clock-is i s h = ap (λ (d : Desk 1 ℕ). d.state.now) (desk-is i s h)

pub answer_is : (e : Event) (h : History) → Sound three e.who → result 1 one_byte three e h ≡ (stamp e (trace h)).answer
answer_is e h s = ap (outcome one_byte three e.who e.what) (desk-is e.who s h)
