-- Lemmas on what reading contents answers.
use Rattle.std.proofs.Common.{◌≡◌, ℕ, ◌≤◌, Bool, true, false, cond, ◌&&◌, ltb, List, ◌++◌, length, take, drop, IfOk, Some, None, Ok, Err, Decides, Option, Result, refl, ap, ◌∙◌, arith, take_at}
use Rattle.std.proofs.lemmas.Bool.{false≢true, le-ltb, cond-false}
use Rattle.std.specs.Option.{ok_or}
use Rattle.std.specs.Bool.{then_some}
use Rattle.content.specs.declared.refusal.Refusal.{Refusal}
use Rattle.content.specs.declared.refusal.Refusal.TheVariants.{Short, Trailing, NoContent}
use Rattle.content.specs.Kinds.{Bytes, Kind, read_content, write_answer, write_memory, when_is}

pub decides_when : {X : Type 0} (b : Bool) (x : X) → Decides b (then_some b x ≡ Some x)
decides_when true x = (λ _. refl, λ _. refl)
decides_when false x = (λ e. absurd (false≢true e), λ e. (when_is false x x e).0)

-- a record that its own bytes are read as, by the kind's test
pub decides_read : {R : Type 0} (test : R → Bool) (b : Bool) (x r : R) → b ≡ true → x ≡ r → Decides (test r) (then_some (b && test x) x ≡ Some r)
decides_read test b x r p q = rw (p, q) (decides_when (test r) r)

-- what is read from a slice of any length is what the kind reads
pub read_is : {L : ℕ} {R : Type 0} (k : Kind L R) (xs : List ℕ) (r : R) → read_content k xs ≡ Ok r → k.reads xs ≡ Some r
read_is {L} {R} k xs r h = passed (ltb (length xs) L) (ltb L (length xs)) (k.reads xs) h
  where
    passed : (a b : Bool) (o : Option R) → cond a (Err (Short 0)) (cond b (Err (Trailing L)) (ok_or o (NoContent 0))) ≡ Ok r → o ≡ Some r
    passed true b o h = absurd (let z : ◌≡◌ {A = ℕ} 0 1 = cc in omega arith)
    passed false true o h = absurd (let z : ◌≡◌ {A = ℕ} 0 1 = cc in omega arith)
    passed false false None h = absurd (let z : ◌≡◌ {A = ℕ} 0 1 = cc in omega arith)
    passed false false (Some y) h = cc

-- and its bytes are those of the slice
pub read_back : {L : ℕ} {R : Type 0} (k : Kind L R) (xs : List ℕ) (r : R) → Bytes xs → read_content k xs ≡ Ok r → k.shown r ≡ xs
read_back k xs r b h = k.back xs r b (read_is k xs r h)

-- the front of a memory that was written to
pub written-front : (n : ℕ) (ys mem out : List ℕ) (r : Result ℕ Refusal) → n ≤ length mem → length ys ≡ n → r ≡ write_answer n (Ok ys) mem → out ≡ write_memory n (Ok ys) mem → IfOk r (λ k. take k out ≡ ys)
written-front n ys mem out r h l a m =
    let no : ltb (length mem) n ≡ false = le-ltb (length mem) n h in
    let is : r ≡ Ok n = a ∙ cond-false _ _ _ no in
    let holds : out ≡ ys ++ drop n mem = m ∙ cond-false _ _ _ no in
    rw is (ap (take n) holds ∙ take_at ys (drop n mem) n l)
