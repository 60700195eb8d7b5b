-- One field after another: what was peeled off lies in front of the rest, and what lies in front is peeled off.
use Rattle.std.proofs.Common.{◌≡◌, ℕ, zero, suc, ◌+◌, ◌^◌, ◌<◌, Bool, true, false, cond, ltb, List, [], ◌∷◌, ◌++◌, length, take, drop, Ok, Err, Result, refl, ap, ◌∙◌, subst, arith, length-append, take-append-drop, length-take-le, get_or-drop, take_at, drop_at}
use Rattle.std.proofs.lemmas.Bool.{ltb-false, le-ltb}
use Rattle.content.specs.Kinds.{Bytes}
use Rattle.content.specs.Numbers.{number, spell}
use Rattle.content.specs.declared.refusal.Refusal.{Refusal}
use Rattle.content.proofs.Numbers.{spell-number, number-spell, length-spell, number-below}
use Rattle.wire.specs.Reading.{next, peel, peel_number}

-- what holds of whatever a reading gives
abbrev pub Gives : {X : Type 0} → Result X Refusal → (X → Type 0) → Type 0
Gives {X} r Q = (x : X) → r ≡ Ok x → Q x

pub gives_err : {X : Type 0} (Q : X → Type 0) (e : Refusal) → Gives (Err e) Q
gives_err Q e x h = absurd (let z : ◌≡◌ {A = ℕ} 0 1 = cc in omega arith)

pub gives_ok : {X : Type 0} (Q : X → Type 0) (x : X) → Q x → Gives (Ok x) Q
gives_ok Q x h y e = let p : x ≡ y = cc in subst Q p h

pub gives_next : {X Y : Type 0} {P : X → Type 0} {Q : Y → Type 0} (r : Result X Refusal) (f : X → Result Y Refusal)
    → Gives r P → ((x : X) → P x → Gives (f x) Q) → Gives (next r f) Q
gives_next (Ok x) f h s = s x (h x refl)
gives_next {Q} (Err e) f h s = gives_err Q e

pub gives_if : {X : Type 0} {Q : X → Type 0} (b : Bool) (r : Result X Refusal) (e : Refusal)
    → (b ≡ true → Gives r Q) → Gives (cond b r (Err e)) Q
gives_if true r e s = s refl
gives_if {Q} false r e s = gives_err Q e

pub gives_unless : {X : Type 0} {Q : X → Type 0} (b : Bool) (r : Result X Refusal) (e : Refusal)
    → (b ≡ false → Gives r Q) → Gives (cond b (Err e) r) Q
gives_unless false r e s = s refl
gives_unless {Q} true r e s = gives_err Q e

pub gives_either : {X : Type 0} {Q : X → Type 0} (b : Bool) (r s : Result X Refusal)
    → (b ≡ true → Gives r Q) → (b ≡ false → Gives s Q) → Gives (cond b r s) Q
gives_either true r s f g = f refl
gives_either false r s f g = g refl

-- a step that goes well is passed
pub next_forth : {X Y : Type 0} {r : Result X Refusal} {x : X} {z : Result Y Refusal} (f : X → Result Y Refusal)
    → r ≡ Ok x → f x ≡ z → next r f ≡ z
next_forth f h g = ap (λ q. next q f) h ∙ g

pub bytes_take : (k : ℕ) (xs : List ℕ) → Bytes xs → Bytes (take k xs)
bytes_take zero xs h i = omega arith
bytes_take (suc k) [] h i = omega arith
bytes_take (suc k) (x ∷ xs) h zero = h 0
bytes_take (suc k) (x ∷ xs) h (suc i) = bytes_take k xs (λ j. h (suc j)) i

pub bytes_drop : (k : ℕ) (xs : List ℕ) → Bytes xs → Bytes (drop k xs)
bytes_drop k xs h i = rw get_or-drop (h (k + i))

-- bytes as they lie
pub record Peeled (k : ℕ) (xs : List ℕ) (p : List ℕ × List ℕ) : Type 0 where
  pub sized : length p.0 ≡ k
  pub back : p.0 ++ p.1 ≡ xs
  pub bytes : Bytes p.0
  pub rest : Bytes p.1

pub peel-back : (k at : ℕ) (xs : List ℕ) → Bytes xs → Gives (peel k at xs) (Peeled k xs)
peel-back k at xs b =
    gives_unless (ltb (length xs) k) (Ok (take k xs, drop k xs)) _
    (λ h. gives_ok (Peeled k xs) _
    (record {
      sized = length-take-le k xs (ltb-false (length xs) k h);
      back = take-append-drop k xs;
      bytes = bytes_take k xs b;
      rest = bytes_drop k xs b;
    }))

pub peel_forth : (k at : ℕ) (front rest : List ℕ) → length front ≡ k → peel k at (front ++ rest) ≡ Ok (front, rest)
peel_forth k at front rest h =
    let long : ltb (length (front ++ rest)) k ≡ false =
    le-ltb (length (front ++ rest)) k (simp length-append (omega arith)) in
    simp (long, take_at, drop_at)

-- a number in k bytes
pub record Spelt (k : ℕ) (xs : List ℕ) (p : ℕ × List ℕ) : Type 0 where
  pub range : p.0 < 256 ^ k
  pub back : spell k p.0 ++ p.1 ≡ xs
  pub rest : Bytes p.1

spelt : (k : ℕ) (xs : List ℕ) (p : List ℕ × List ℕ) → Peeled k xs p → Spelt k xs (number p.0, p.1)
spelt k xs p h =
    let s : spell k (number p.0) ≡ p.0 = rw h.sized at (spell-number p.0 h.bytes) in
    record {
      range = rw h.sized at (number-below p.0 h.bytes);
      back = rw s h.back;
      rest = h.rest;
    }

pub number-back : (k at : ℕ) (xs : List ℕ) → Bytes xs → Gives (peel_number k at xs) (Spelt k xs)
number-back k at xs b = gives_next (peel k at xs) _ (peel-back k at xs b) (λ p h. gives_ok (Spelt k xs) _ (spelt k xs p h))

pub number_forth : (k at n : ℕ) (rest : List ℕ) → n < 256 ^ k → peel_number k at (spell k n ++ rest) ≡ Ok (n, rest)
number_forth k at n rest h =
    next_forth (λ p. Ok (number p.0, p.1)) (peel_forth k at (spell k n) rest (length-spell k n))
    (ap (λ m. Ok (m, rest)) (number-spell k n h))
