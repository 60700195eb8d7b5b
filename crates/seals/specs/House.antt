-- House seals: a key of 16 bytes for each seat, and the seal that it makes of a statement.
use Rattle.std.specs.Prelude.{◌≡◌, ℕ, ◌+◌, ◌*◌, Bool, false, cond, ◌&&◌, T, List, length, take, drop, Some, None, Decides, Option, ◌==◌, nat_le}
use Rattle.std.proofs.Common.{◌∙◌}
use Rattle.std.specs.Str.{bytes_eq}
use Rattle.content.specs.Numbers.{spell, length-spell}
use Rattle.rota.specs.Limits.{seats_lawful}
use Rattle.seals.specs.Checks.{same_length}
use Rattle.seals.specs.SipHash.{sip_hash}

-- a row of one key for each of n seats
abbrev pub keys_lawful : ℕ → List ℕ → Bool
keys_lawful n keys = seats_lawful n && length keys == 16 * n

-- the key of a seat, in its place in the row
abbrev pub key_of : List ℕ → ℕ → Option (List ℕ)
key_of keys seat = cond (nat_le (16 * seat + 16) (length keys)) (Some (take 16 (drop (16 * seat) keys))) None

-- the seal that a key makes, and that of a seat
abbrev pub seal_under : List ℕ → List ℕ → List ℕ
seal_under key statement = spell 8 (sip_hash key statement)

abbrev pub seal_by : Option (List ℕ) → List ℕ → Option (List ℕ)
seal_by None statement = None
seal_by (Some key) statement = Some (seal_under key statement)

abbrev pub house_seal : List ℕ → ℕ → List ℕ → Option (List ℕ)
house_seal keys seat statement = seal_by (key_of keys seat) statement

-- the check says yes to that seal and to no other
abbrev pub is_seal : Option (List ℕ) → List ℕ → Bool
is_seal None seal = false
is_seal (Some good) seal = bytes_eq good seal

abbrev pub house_accepts : List ℕ → ℕ → List ℕ → List ℕ → Bool
house_accepts keys seat statement seal = is_seal (house_seal keys seat statement) seal

-- the statement of that: under any keys, a seal is good exactly if it is the one that the signing box makes
abbrev pub OneGoodSeal : Type 0
OneGoodSeal = (keys : List ℕ) (seat : ℕ) (statement seal : List ℕ) → Decides (house_accepts keys seat statement seal) (house_seal keys seat statement ≡ Some seal)

-- every good seal has eight bytes
pub house_sized : (keys : List ℕ) (seat : ℕ) (statement seal : List ℕ) → T (house_accepts keys seat statement seal) → length seal ≡ 8
house_sized keys seat statement seal h = is-sized (key_of keys seat) h
  where
    is-sized : (key : Option (List ℕ)) → T (is_seal (seal_by key statement) seal) → length seal ≡ 8
    is-sized None k = elim k [ ]
    is-sized (Some key) k = same_length (seal_under key statement) seal k ∙ length-spell 8 (sip_hash key statement)
