-- How many seats a log may have, and how many entries a posted rota.
use Rattle.std.specs.Prelude.{◌≡◌, ℕ, ◌%◌, Bool, true, false, ◌&&◌, Ok, Err, Result, ◌==◌, nat_le}
use Rattle.content.specs.declared.refusal.Refusal.{Refusal}
use Rattle.content.specs.declared.refusal.Refusal.TheVariants.{OutOfLimits}

-- an odd number, 3 to 15
abbrev pub seats_lawful : ℕ → Bool
seats_lawful n = nat_le 3 n && (nat_le n 15 && n % 2 == 1)

-- for a lawful number of seats, 1 to 16 entries
abbrev pub posted_lawful : ℕ → ℕ → Bool
posted_lawful n count = seats_lawful n && (nat_le 1 count && nat_le count 16)

-- what making answers: within the limits the thing itself, of which P is said, and else a refusal
abbrev pub MadeWithin : {X : Type 0} → Bool → (X → Type 0) → Result X Refusal → Type 0
MadeWithin lawful P (Ok made) = (lawful ≡ true) × P made
MadeWithin lawful P (Err e) = (lawful ≡ false) × (e ≡ OutOfLimits)
