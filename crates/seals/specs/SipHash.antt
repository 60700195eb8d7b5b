-- SipHash-2-4, the keyed hash of Aumasson and Bernstein, as published: a key of 16 bytes, a message of any
-- length, an answer of 64 bits. Words have 64 bits and lie low byte first.
use Rattle.std.specs.Prelude.{ℕ, zero, suc, ◌+◌, ◌-◌, ◌*◌, ◌/◌, ◌%◌, ◌^◌, List, [], ◌∷◌, length, take, drop, bit_or, bit_xor}
use Rattle.content.specs.Numbers.{number}
use Rattle.seals.specs.declared.siphash.State.{State}

-- the sum of two words, and a word turned left by k bits
abbrev pub add : ℕ → ℕ → ℕ
add a b = (a + b) % 2 ^ 64

abbrev pub turn : ℕ → ℕ → ℕ
turn k a = bit_or (a * 2 ^ k % 2 ^ 64) (a / 2 ^ (64 - k))

-- one round of additions, turns and exclusive ors, and so many rounds
abbrev pub sip_round : State → State
sip_round s =
    let a0 = add s.v0 s.v1 in
    let a2 = add s.v2 s.v3 in
    let b1 = bit_xor (turn 13 s.v1) a0 in
    let b3 = bit_xor (turn 16 s.v3) a2 in
    let c2 = add a2 b1 in
    let c0 = add (turn 32 a0) b3 in
    record { v0 = c0; v1 = bit_xor (turn 17 b1) c2; v2 = turn 32 c2; v3 = bit_xor (turn 21 b3) c0 }

unfoldable pub sip_rounds : ℕ → State → State
sip_rounds zero s = s
sip_rounds (suc k) s = sip_round (sip_rounds k s)

-- the state that a key begins with
abbrev pub start : List ℕ → State
start key =
    let k0 = number (take 8 key) in
    let k1 = number (drop 8 key) in
    record {
      v0 = bit_xor k0 0x736f6d6570736575;
      v1 = bit_xor k1 0x646f72616e646f6d;
      v2 = bit_xor k0 0x6c7967656e657261;
      v3 = bit_xor k1 0x7465646279746573;
    }

-- A word goes in: it is mixed into v3, two rounds follow, and it is mixed into v0. Words go in one by one.
abbrev pub compress : State → ℕ → State
compress s word =
    let t = sip_rounds 2 (record { v0 = s.v0; v1 = s.v1; v2 = s.v2; v3 = bit_xor s.v3 word }) in
    record { v0 = bit_xor t.v0 word; v1 = t.v1; v2 = t.v2; v3 = t.v3 }

abbrev pub absorb : State → List ℕ → State
absorb s [] = s
absorb s (word ∷ words) = absorb (compress s word) words

-- the answer comes out: v2 is marked, four rounds follow, and the four words are mixed
abbrev pub finish : State → ℕ
finish s =
    let t = sip_rounds 4 (record { v0 = s.v0; v1 = s.v1; v2 = bit_xor s.v2 0xff; v3 = s.v3 }) in
    bit_xor (bit_xor t.v0 t.v1) (bit_xor t.v2 t.v3)

-- The words of the rest of a message of `len` bytes: so many of eight bytes, and a last one, of what is left
-- over, with the message's length mod 256 as its top byte.
abbrev pub words_of : ℕ → ℕ → List ℕ → List ℕ
words_of zero len rest = (number rest + len % 256 * 2 ^ 56) ∷ []
words_of (suc k) len rest = number (take 8 rest) ∷ words_of k len (drop 8 rest)

-- the state once the rest of a message of `len` bytes has gone in
abbrev pub absorb_rest : State → ℕ → List ℕ → State
absorb_rest s len rest = absorb s (words_of (length rest / 8) len rest)

-- the hash of a message under a key
abbrev pub sip_hash : List ℕ → List ℕ → ℕ
sip_hash key message = finish (absorb_rest (start key) (length message) message)

-- so many bytes in rising order, from a first one on
abbrev pub rising : ℕ → ℕ → List ℕ
rising zero first = []
rising (suc n) first = first ∷ rising n (first + 1)
