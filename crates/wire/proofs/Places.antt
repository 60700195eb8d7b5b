-- Bytes put one after another are bytes put at once.
use Rattle.std.proofs.Common.{◌≡◌, ℕ, ◌+◌, ◌-◌, ◌≤◌, List, ◌++◌, length, take, drop, Ok, sym, ap, ◌∙◌, subst, append_assoc, add_assoc, arith, length-append, length-drop, length-take-le, drop-drop, take_at}
use borrow.Rule.Slice.PartMut.{put_mid}
use lib.Seq.{drop-append-add}
use Rattle.std.proofs.lemmas.Bool.{cond-true, le-leb}
use Rattle.content.specs.Kinds.{Kind}
use Rattle.wire.specs.Layout.{message_bytes}
use Rattle.wire.specs.Writing.{placed, Put, message_size, has_room, write_end, write_out}
use Rattle.wire.specs.declared.message.Parts.{Parts}

-- what a write to a part of a slice leaves
pub placed_mid : (out ys bytes : List ℕ) (at k : ℕ) → ys ≡ bytes → k ≡ length bytes → put_mid at k out ys ≡ placed out at bytes
unfolding placed
placed_mid out ys bytes at k e h = rw (e, h) (ap (λ zs. take at out ++ (bytes ++ zs)) (drop-drop (length bytes) at out))

pub placed-more : (out a b : List ℕ) (at : ℕ) → at + length a ≤ length out
    → placed (placed out at a) (at + length a) b ≡ placed out at (a ++ b)
unfolding placed
placed-more out a b at h =
    let front : List ℕ = take at out in
    let l : length front ≡ at = length-take-le at out (omega arith) in
    let n : length (front ++ a) ≡ at + length a = length-append front a ∙ ap (λ i. i + length a) l in
    let rest : List ℕ = drop (at + length a) out in
    let s : front ++ (a ++ rest) ≡ (front ++ a) ++ rest = sym (append_assoc front a rest) in
    let t : take (at + length a) ((front ++ a) ++ rest) ≡ front ++ a = take_at (front ++ a) rest (at + length a) n in
    let d : drop (at + length a + length b) ((front ++ a) ++ rest) ≡ drop (length b) rest =
    ap (λ i. drop (i + length b) ((front ++ a) ++ rest)) (sym n) ∙ drop-append-add (front ++ a) rest (length b) in
    let e : drop (length b) rest ≡ drop (at + length (a ++ b)) out =
    drop-drop (length b) (at + length a) out ∙ ap (λ i. drop i out) (rw length-append (add_assoc at (length a) (length b))) in
    ap (λ zs. take (at + length a) zs ++ (b ++ drop (at + length a + length b) zs)) s
    ∙ ap (λ zs. zs ++ (b ++ drop (at + length a + length b) ((front ++ a) ++ rest))) t
    ∙ ap (λ zs. (front ++ a) ++ (b ++ zs)) (d ∙ e) ∙ simp append_assoc

pub length-placed : (out a : List ℕ) (at : ℕ) → at + length a ≤ length out → length (placed out at a) ≡ length out
unfolding placed
length-placed out a at h =
    let l : length (take at out) ≡ at = length-take-le at out (omega arith) in
    let d : length (drop (at + length a) out) ≡ length out - (at + length a) = length-drop (at + length a) out in
    simp (length-append, l, d) (omega arith)

module _ {out out₁ : List ℕ} {at i : ℕ} where
  pub length_put : {a : List ℕ} → Put out at a out₁ i → length out₁ ≡ length out
  length_put {a} p = ap length p.is ∙ length-placed out a at (omega (arith, p.behind, p.fits))

  pub put_as : {a b : List ℕ} → a ≡ b → Put out at a out₁ i → Put out at b out₁ i
  put_as e p = subst (λ xs. Put out at xs out₁ i) e p

pub put_then : {out a out₁ b out₂ : List ℕ} {at i j : ℕ} → Put out at a out₁ i → Put out₁ i b out₂ j → Put out at (a ++ b) out₂ j
put_then {out} {a} {out₁} {b} {out₂} {at} {i} {j} p q =
    let l : length out₁ ≡ length out = length_put p in
    record {
      is = q.is ∙ ap (λ zs. placed zs i b) p.is ∙ ap (λ e. placed (placed out at a) e b) p.behind
          ∙ placed-more out a b at (omega (arith, p.behind, p.fits));
      behind = rw length-append (omega (arith, q.behind, p.behind));
      fits = omega (arith, q.fits);
    }

-- a message that was put in place was written
module _ {L : ℕ} {R : Type 0} (k : Kind L R) (out : List ℕ) (at : ℕ) (m : Parts R (List ℕ)) where
  pub write_end_lem : (end : ℕ) → end ≡ at + message_size L m → end ≤ length out → Ok end ≡ write_end k out at m
  write_end_lem end e f =
      ap (λ i. Ok i) e ∙ sym (cond-true (has_room k out at m) _ _ (le-leb (at + message_size L m) (length out) (omega arith)))

  pub write_out_lem : {out₁ : List ℕ} {end : ℕ} → end ≡ at + message_size L m → Put out at (message_bytes k m) out₁ end → out₁ ≡ write_out k out at m
  write_out_lem e p =
      p.is ∙ sym (cond-true (has_room k out at m) _ _ (le-leb (at + message_size L m) (length out) (omega (arith, p.fits))))
