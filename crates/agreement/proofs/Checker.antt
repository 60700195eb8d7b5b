-- A test of histories at the three seats: one that passes is a run.
use Rattle.std.proofs.Common.{◌≡◌, ℕ, zero, suc, ◌+◌, ◌<◌, ◌≤◌, Bool, true, false, ◌&&◌, ◌||◌, eqb, ltb, leb, ◌⊎◌, List, [], ◌∷◌, ◌++◌, Some, None, Ok, Err, Option, Result, sym, ap, ◌∙◌, subst, subst₂, inl, inr, arith}
use Rattle.std.specs.Str.{bytes_eq}
use Rattle.std.proofs.lemmas.Slice.Eq.{bytes_eq-Decides}
use Rattle.std.proofs.lemmas.Bool.{and_parts, eqb-true, leb-true, ltb-true, or_cases}
use Rattle.content.specs.Kinds.{Bytes}
use Rattle.content.specs.declared.refusal.Refusal.{Refusal}
use Rattle.state.specs.Sends.{Outcome, Sending, sending_bytes}
use Rattle.agreement.specs.History.{Call, Event, History, Is, Once, Refused, Sends, clock, hand, inbox_of, offer, result, sent, tick}
use Rattle.agreement.specs.Run.{Alike, Driven, Each, Hands, Sealed, StepAt, Timely}
use Rattle.agreement.specs.Setting.{Sound}
use Rattle.agreement.specs.Witness.{one_byte, three}
use Rattle.agreement.proofs.Basics.{true-false}
use Rattle.agreement.proofs.Replay.{Stamp, answer_is, clock-is, now_of, sound-is, stamp, trace}

-- every number is a byte
abbrev pub are_bytes : List ℕ → Bool
are_bytes [] = true
are_bytes (x ∷ xs) = ltb x 256 && are_bytes xs

bytes_are : (xs : List ℕ) → are_bytes xs ≡ true → Bytes xs
bytes_are [] e i = omega arith
bytes_are (x ∷ xs) e zero = ltb-true x 256 (and_parts (ltb x 256) (are_bytes xs) e).0
bytes_are (x ∷ xs) e (suc i) = bytes_are xs (and_parts (ltb x 256) (are_bytes xs) e).1 i

-- carried out
abbrev pub answered_ok : {X : Type 0} → Result X Refusal → Bool
answered_ok (Ok x) = true
answered_ok (Err e) = false

not-refused : {X : Type 0} (x y : Result X Refusal) (r : Refusal) → answered_ok y ≡ true → x ≡ y → x ≡ Err r → ⊥
not-refused x y r ok same out = true-false (sym ok ∙ ap answered_ok (sym same ∙ out))

-- the call is at a sound seat, in bytes, and carried out
abbrev pub is_driven : Stamp → Bool
is_driven s = three.sound s.event.who && (are_bytes (inbox_of s.event.what) && answered_ok s.answer)

pub driven-is : (e : Event) (h : History) → is_driven (stamp e (trace h)) ≡ true → Driven 1 one_byte three e h
driven-is e h ok =
    let a = and_parts (three.sound e.who) (are_bytes (inbox_of e.what) && answered_ok (stamp e (trace h)).answer) ok in
    let b = and_parts (are_bytes (inbox_of e.what)) (answered_ok (stamp e (trace h)).answer) a.1 in
    let never : (r : Refusal) → Refused 1 one_byte three r e h → ⊥ =
    λ r. not-refused (result 1 one_byte three e h) (stamp e (trace h)).answer r b.1 (answer_is e h a.0) in
    record {
      at_sound = a.0;
      in_bytes = bytes_are (inbox_of e.what) b.0;
      never_full = never _;
      never_past = never _;
      never_small = never _;
      never_slip = never _;
    }

-- in step
abbrev pub steps_at : ℕ → Call → List Stamp → Bool
steps_at i (tick room) t = leb (now_of i t) (now_of 1 t) && leb (now_of i t) (now_of 2 t)
steps_at i (hand inbox room) t = eqb (now_of 1 t) (now_of 2 t)
steps_at i (offer content room) t = eqb (now_of 1 t) (now_of 2 t)
steps_at i sent t = eqb (now_of 1 t) (now_of 2 t)

now-alike : (i : ℕ) (t : List Stamp) → Sound three i → eqb (now_of 1 t) (now_of 2 t) ≡ true → now_of i t ≡ now_of 1 t
now-alike i t s ok =
    elim (sound-is i s) [
      | inl e ↦ ap (λ (j : ℕ). now_of j t) e
      | inr e ↦ ap (λ (j : ℕ). now_of j t) e ∙ sym (eqb-true (now_of 1 t) (now_of 2 t) ok)
    ]

alike_is : (i : ℕ) (h : History) → Sound three i → eqb (now_of 1 (trace h)) (now_of 2 (trace h)) ≡ true → Alike 1 one_byte three i h
alike_is i h s ok j t =
    clock-is j t h ∙ (now-alike j (trace h) t ok ∙ (sym (now-alike i (trace h) s ok) ∙ sym (clock-is i s h)))

now_most : (i j : ℕ) (t : List Stamp) → Sound three j → (leb (now_of i t) (now_of 1 t) && leb (now_of i t) (now_of 2 t)) ≡ true → now_of i t ≤ now_of j t
now_most i j t s ok =
    let a = and_parts (leb (now_of i t) (now_of 1 t)) (leb (now_of i t) (now_of 2 t)) ok in
    elim (sound-is j s) [
      | inl e ↦ subst (λ (z : ℕ). now_of i t ≤ now_of z t) (sym e) (leb-true (now_of i t) (now_of 1 t) a.0)
      | inr e ↦ subst (λ (z : ℕ). now_of i t ≤ now_of z t) (sym e) (leb-true (now_of i t) (now_of 2 t) a.1)
    ]

behind-is : (i : ℕ) (h : History) → Sound three i → (leb (now_of i (trace h)) (now_of 1 (trace h)) && leb (now_of i (trace h)) (now_of 2 (trace h))) ≡ true →
    (j : ℕ) → Sound three j → clock 1 one_byte three i h ≤ clock 1 one_byte three j h
behind-is i h s ok j t =
    subst (λ (z : ℕ). z ≤ clock 1 one_byte three j h) (sym (clock-is i s h))
    (subst (λ (z : ℕ). now_of i (trace h) ≤ z) (sym (clock-is j t h)) (now_most i j (trace h) t ok))

pub step_is : (i : ℕ) (c : Call) (h : History) → Sound three i → steps_at i c (trace h) ≡ true → StepAt 1 one_byte three i c h
step_is i (tick room) h s ok = behind-is i h s ok
step_is i (hand inbox room) h s ok = alike_is i h s ok
step_is i (offer content room) h s ok = alike_is i h s ok
step_is i sent h s ok = alike_is i h s ok

-- a test of each item that a call sent
abbrev pub item : (List ℕ → Bool) → List ℕ → Option (Sending ℕ) → Bool
item f inbox None = true
item f inbox (Some s) = f (sending_bytes one_byte inbox s)

abbrev pub items : (List ℕ → Bool) → List ℕ → Result (Outcome 1 ℕ) Refusal → Bool
items f inbox (Err r) = true
items f inbox (Ok o) = item f inbox o.sends.certificate && (item f inbox o.sends.message && item f inbox o.sends.blame)

item-is : (f : List ℕ → Bool) (inbox m : List ℕ) (x : Option (Sending ℕ)) → item f inbox x ≡ true → Is 1 one_byte three inbox m x → f m ≡ true
item-is f inbox m None ok x = absurd x
item-is f inbox m (Some s) ok x = subst (λ (z : List ℕ). f z ≡ true) x ok

items_are : (f : List ℕ → Bool) (inbox m : List ℕ) (x : Result (Outcome 1 ℕ) Refusal) (o : Outcome 1 ℕ) → items f inbox x ≡ true → x ≡ Ok o →
    Is 1 one_byte three inbox m o.sends.certificate ⊎ (Is 1 one_byte three inbox m o.sends.message ⊎ Is 1 one_byte three inbox m o.sends.blame) →
    f m ≡ true
items_are f inbox m x o ok e is =
    let good : items f inbox (Ok o) ≡ true = subst (λ z. items f inbox z ≡ true) e ok in
    let a = and_parts (item f inbox o.sends.certificate) (item f inbox o.sends.message && item f inbox o.sends.blame) good in
    let b = and_parts (item f inbox o.sends.message) (item f inbox o.sends.blame) a.1 in
    elim is [
      | inl x ↦ item-is f inbox m o.sends.certificate a.0 x
      | inr y ↦ elim y [
        | inl x ↦ item-is f inbox m o.sends.message b.0 x
        | inr x ↦ item-is f inbox m o.sends.blame b.1 x
      ]
    ]

-- Delivery, by a table of items with their sealed messages.
abbrev pub Table : Type 0
Table = List (List ℕ × List ℕ)

abbrev pub in_table : Table → List ℕ → List ℕ → Bool
in_table [] m inbox = false
in_table (p ∷ ps) m inbox = (bytes_eq p.0 m && bytes_eq p.1 inbox) || in_table ps m inbox

abbrev pub AllSealed : Table → Type 0
AllSealed ps = Each (λ p. Sealed 1 one_byte three p.0 p.1) ps

table_is : (ps : Table) (m inbox : List ℕ) → AllSealed ps → in_table ps m inbox ≡ true → Sealed 1 one_byte three m inbox
table_is [] m inbox a e = absurd (true-false (sym e))
table_is (p ∷ ps) m inbox a e =
    elim (or_cases (bytes_eq p.0 m && bytes_eq p.1 inbox) (in_table ps m inbox) e) [
      | inl x ↦
          let b = and_parts (bytes_eq p.0 m) (bytes_eq p.1 inbox) x in
          subst (λ (z : List ℕ). Sealed 1 one_byte three z inbox) ((bytes_eq-Decides p.0 m).0 b.0)
          (subst (λ (z : List ℕ). Sealed 1 one_byte three p.0 z) ((bytes_eq-Decides p.1 inbox).0 b.1) a.0)
      | inr x ↦ table_is ps m inbox a.1 x
    ]

abbrev pub hands_over : Table → List ℕ → Call → Bool
hands_over ps m (hand inbox room) = in_table ps m inbox
hands_over ps m (tick room) = false
hands_over ps m (offer content room) = false
hands_over ps m sent = false

hands-is : (ps : Table) (m : List ℕ) (c : Call) → AllSealed ps → hands_over ps m c ≡ true → Hands 1 one_byte three m c
hands-is ps m (hand inbox room) a e = table_is ps m inbox a e
hands-is ps m (tick room) a e = absurd (true-false (sym e))
hands-is ps m (offer content room) a e = absurd (true-false (sym e))
hands-is ps m sent a e = absurd (true-false (sym e))

-- whether m was handed to j by this call or by a later one
abbrev pub with_stamp : Table → Stamp → (ℕ → List ℕ → Bool) → ℕ → List ℕ → Bool
with_stamp ps s later j m =
    let d : Bool = later j m in
    let g : Bool = hands_over ps m s.event.what in
    (eqb s.event.who j && g) || d

-- what a call sent is not overdue at clocks a and b, or was handed to both later
abbrev pub in_time : (a b : ℕ) → (ℕ → List ℕ → Bool) → Stamp → ℕ → Bool
in_time a b later s now =
    let out : Bool = items (λ m. later 1 m && later 2 m) (inbox_of s.event.what) s.answer in
    (leb a (now + 1) && leb b (now + 1)) || out

abbrev pub all_in_time : Table → (a b : ℕ) → (ℕ → List ℕ → Bool) → List Stamp → Bool
all_in_time ps a b later [] = true
all_in_time ps a b later (s ∷ t) =
    in_time a b later s (now_of s.event.who (s ∷ t)) && all_in_time ps a b (with_stamp ps s later) t

abbrev pub is_timely : Table → List Stamp → Bool
is_timely ps t = all_in_time ps (now_of 1 t) (now_of 2 t) (λ j m. false) t

-- what a call sent that is overdue was handed to both sound seats later
module _ (ps : Table) (sealed : AllSealed ps) (a b : ℕ) where
  abbrev Handed : ℕ → List ℕ → Event → Type 0
  Handed j m x = (x.who ≡ j) × Hands 1 one_byte three m x.what

  with_is : (y : Event) (t : List Stamp) (later : ℕ → List ℕ → Bool) (Later : ℕ → List ℕ → Type 0) → ((j : ℕ) (m : List ℕ) → later j m ≡ true → Later j m) →
      (j : ℕ) (m : List ℕ) → with_stamp ps (stamp y t) later j m ≡ true → Handed j m y ⊎ Later j m
  with_is y t later Later is j m e =
      elim (or_cases (eqb y.who j && hands_over ps m y.what) (later j m) e) [
        | inl x ↦
            let c = and_parts (eqb y.who j) (hands_over ps m y.what) x in
            inl (eqb-true y.who j c.0, hands-is ps m y.what sealed c.1)
        | inr x ↦ inr (is j m x)
      ]

  both_later : (later : ℕ → List ℕ → Bool) (j : ℕ) (m : List ℕ) → Sound three j → (later 1 m && later 2 m) ≡ true → later j m ≡ true
  both_later later j m s e =
      let c = and_parts (later 1 m) (later 2 m) e in
      elim (sound-is j s) [
        | inl x ↦ subst (λ (z : ℕ). later z m ≡ true) (sym x) c.0
        | inr x ↦ subst (λ (z : ℕ). later z m ≡ true) (sym x) c.1
      ]

  at_once : (later : ℕ → List ℕ → Bool) (e : Event) (p : History) (now : ℕ) → in_time a b later (stamp e (trace p)) now ≡ true →
      Sound three e.who → (m : List ℕ) → Sends 1 one_byte three m e p → (a ≤ now + 1 → b ≤ now + 1 → ⊥) → (j : ℕ) → Sound three j → later j m ≡ true
  at_once later e p now ok s m sends over j sj =
      let f : List ℕ → Bool = λ x. later 1 x && later 2 x in
      elim (or_cases (leb a (now + 1) && leb b (now + 1)) (items f (inbox_of e.what) (stamp e (trace p)).answer) ok) [
        | inl x ↦
            let c = and_parts (leb a (now + 1)) (leb b (now + 1)) x in
            absurd (over (leb-true a (now + 1) c.0) (leb-true b (now + 1) c.1))
        | inr x ↦ both_later later j m sj
            (items_are f (inbox_of e.what) m (stamp e (trace p)).answer sends.0 x (sym (answer_is e p s) ∙ sends.1) sends.2)
      ]

  handed-later : (later : ℕ → List ℕ → Bool) (Later : ℕ → List ℕ → Type 0) → ((j : ℕ) (m : List ℕ) → later j m ≡ true → Later j m) →
      (q : History) (e : Event) (p : History) → all_in_time ps a b later (trace (q ++ (e ∷ p))) ≡ true → Sound three e.who →
      (m : List ℕ) → Sends 1 one_byte three m e p → (a ≤ now_of e.who (trace (e ∷ p)) + 1 → b ≤ now_of e.who (trace (e ∷ p)) + 1 → ⊥) →
      (j : ℕ) → Sound three j → Later j m ⊎ Once (λ x _. Handed j m x) q
  unfolding trace
  handed-later later Later is [] e p ok s m sends over j sj =
      let t : List Stamp = trace p in
      let now : ℕ = now_of e.who (stamp e t ∷ t) in
      let c = and_parts (in_time a b later (stamp e t) now) (all_in_time ps a b (with_stamp ps (stamp e t) later) t) ok in
      inl (is j m (at_once later e p now c.0 s m sends over j sj))
  handed-later later Later is (y ∷ q) e p ok s m sends over j sj =
      let t : List Stamp = trace (q ++ (e ∷ p)) in
      let c = and_parts (in_time a b later (stamp y t) (now_of y.who (stamp y t ∷ t))) (all_in_time ps a b (with_stamp ps (stamp y t) later) t) ok in
      elim (handed-later (with_stamp ps (stamp y t) later) (λ j m. Handed j m y ⊎ Later j m) (with_is y t later Later is) q e p c.1 s m sends over j sj) [
        | inl x ↦ elim x [ inl d ↦ inr (inl d) | inr d ↦ inl d ]
        | inr x ↦ inr (inr x)
      ]

-- the calls of a part of a history are at sound seats
abbrev pub AllSound : History → Type 0
AllSound h = Each (λ e. Sound three e.who) h

sound-at : (q : History) (e : Event) (p : History) → AllSound (q ++ (e ∷ p)) → Sound three e.who
sound-at [] e p a = a.0
sound-at (y ∷ q) e p a = sound-at q e p a.1

over-is : (i l : ℕ) (h g : History) → Sound three i → Sound three l → clock 1 one_byte three i g + 1 < clock 1 one_byte three l h →
    now_of 1 (trace h) ≤ now_of i (trace g) + 1 → now_of 2 (trace h) ≤ now_of i (trace g) + 1 → ⊥
over-is i l h g si sl late x y =
    let low : now_of i (trace g) + 1 < now_of l (trace h) = subst₂ (λ (u v : ℕ). u + 1 < v) (clock-is i si g) (clock-is l sl h) late in
    elim (sound-is l sl) [
      | inl e ↦ let z : now_of l (trace h) ≡ now_of 1 (trace h) = ap (λ (j : ℕ). now_of j (trace h)) e in omega arith
      | inr e ↦ let z : now_of l (trace h) ≡ now_of 2 (trace h) = ap (λ (j : ℕ). now_of j (trace h)) e in omega arith
    ]

timely_split : (ps : Table) → AllSealed ps → (q : History) (e : Event) (p : History) → AllSound (q ++ (e ∷ p)) → is_timely ps (trace (q ++ (e ∷ p))) ≡ true →
    (m : List ℕ) → Sends 1 one_byte three m e p → (l : ℕ) → Sound three l → clock 1 one_byte three e.who (e ∷ p) + 1 < clock 1 one_byte three l (q ++ (e ∷ p)) →
    (j : ℕ) → Sound three j → Once (λ x _. (x.who ≡ j) × Hands 1 one_byte three m x.what) q
timely_split ps sealed q e p all ok m sends l sl late j sj =
    let h : History = q ++ (e ∷ p) in
    let s : Sound three e.who = sound-at q e p all in
    elim (handed-later ps sealed (now_of 1 (trace h)) (now_of 2 (trace h)) (λ j m. false) (λ j m. ⊥) (λ j m x. true-false (sym x)) q e p ok s m sends
    (over-is e.who l h (e ∷ p) s sl late) j sj) [
      | inl x ↦ absurd x
      | inr x ↦ x
    ]

pub timely-is : (ps : Table) → AllSealed ps → (h : History) → AllSound h → is_timely ps (trace h) ≡ true → Timely 1 one_byte three h
timely-is ps sealed h all ok q e p at m sends l sl late j sj =
    timely_split ps sealed q e p (subst AllSound at all) (subst (λ (z : History). is_timely ps (trace z) ≡ true) at ok) m sends l sl
    (subst (λ (z : History). clock 1 one_byte three e.who (e ∷ p) + 1 < clock 1 one_byte three l z) at late) j sj
