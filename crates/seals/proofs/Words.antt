-- How the words of a message come apart.
use Rattle.std.proofs.Common.{◌≡◌, ℕ, zero, suc, ◌+◌, ◌*◌, ◌/◌, ◌%◌, ◌^◌, ◌<◌, ◌≤◌, List, [], ◌∷◌, ◌++◌, length, take, drop, replicate, refl, ap, ◌∙◌, add-one, arith, lit<, length-drop, drop-drop}
use native.Mathlib.Nat.{pow-le-pow_right}
use Rattle.std.specs.List.{fold}
use Rattle.std.specs.Simd.{first_chunks}
use Rattle.content.specs.Numbers.{number}
use Rattle.seals.specs.SipHash.{start, compress, absorb, words_of, absorb_rest, finish, sip_hash}
use Rattle.seals.specs.declared.siphash.State.{State}

-- what fits into k bytes fits into more
pub fits_in : (j : ℕ) {k w : ℕ} → k ≤ j → w < 256 ^ k → w < 256 ^ j
fits_in j {k} h l =
    let m : 256 ^ k ≤ 256 ^ j = pow-le-pow_right (lit< tt) h in
    omega arith

-- the first eight bytes go in as one word
pub word_more : (s : State) (len : ℕ) (rest : List ℕ) → 8 ≤ length rest → absorb_rest s len rest ≡ absorb_rest (compress s (number (take 8 rest))) len (drop 8 rest)
word_more s len rest h =
    let e : length rest / 8 ≡ suc (length (drop 8 rest) / 8) = simp length-drop (omega arith) in
    rw e refl

-- fewer go into the last word
pub word-last : (s : State) (len : ℕ) (rest : List ℕ) → length rest < 8 → absorb_rest s len rest ≡ compress s (number rest + len % 256 * 2 ^ 56)
word-last s len rest h =
    let e : length rest / 8 ≡ 0 = omega arith in
    rw e refl

-- all the words of eight bytes go in, and then what is left over
pub words_fold : (k : ℕ) (s : State) (len : ℕ) (rest : List ℕ) → absorb s (words_of k len rest) ≡ compress (fold (λ t word. compress t (number word)) s (first_chunks 8 k rest)) (number (drop (k * 8) rest) + len % 256 * 2 ^ 56)
words_fold zero s len rest = refl
words_fold (suc k) s len rest =
    let e : drop (k * 8) (drop 8 rest) ≡ drop (suc k * 8) rest = drop-drop (k * 8) 8 rest ∙ ap (λ (n : ℕ). drop n rest) (omega arith) in
    rw (← e) (words_fold k (compress s (number (take 8 rest))) len (drop 8 rest))

-- zeros behind bytes alter no number
zeros_alone : (k n : ℕ) → number (drop n (replicate k 0)) ≡ 0
zeros_alone zero zero = refl
zeros_alone zero (suc n) = refl
zeros_alone (suc k) zero = let e = zeros_alone k 0 in omega arith
zeros_alone (suc k) (suc n) = zeros_alone k n

pub zeros_behind : (xs : List ℕ) (k n : ℕ) → number (xs ++ drop n (replicate k 0)) ≡ number xs
zeros_behind [] k n = zeros_alone k n
zeros_behind (x ∷ xs) k n = ap (λ (m : ℕ). x + 256 * m) (zeros_behind xs k n)

-- the hash of a tag byte and a body: too short for a whole word, or with a first word of seven bytes beside the tag
pub sip_short : (key body : List ℕ) (tag part r : ℕ) (s : State) → length body < 7 → s ≡ start key → part ≡ number (tag ∷ body) → r ≡ finish (compress s (part + (length body + 1) % 256 * 2 ^ 56)) → r ≡ sip_hash key (tag ∷ body)
sip_short key body tag part r s h e p f =
    let o : length body + 1 ≡ suc (length body) = add-one (length body) in
    let l = word-last (start key) (suc (length body)) (tag ∷ body) (omega arith) in
    cc

pub sip_long : (key body front back : List ℕ) (tag word r : ℕ) (s t : State) → 7 ≤ length body → front ≡ take 7 body → back ≡ drop 7 body → word ≡ number (tag ∷ front) → s ≡ start key → t ≡ compress s word → r ≡ finish (absorb_rest t (length body + 1) back) → r ≡ sip_hash key (tag ∷ body)
sip_long key body front back tag word r s t h f b w e d g =
    let o : length body + 1 ≡ suc (length body) = add-one (length body) in
    let m = word_more (start key) (suc (length body)) (tag ∷ body) (omega arith) in
    cc
