-- The number and the detail of every refusal.
use Rattle.std.specs.Prelude.{ℕ}
use Rattle.content.specs.declared.refusal.Refusal.{Refusal}
use Rattle.content.specs.declared.refusal.Refusal.TheVariants.{NoMemory, Short, Trailing, UnknownKind, BadLayout, NoContent, WrongParent, BadSeal, LastView, Orphan, Rival, Full, Fork, NotLeader, OfferLeaving, OfferTooSoon, OfferedAlready, OfferSpoiled, NoLawfulParent, LastTick, NoPlaceLeft, SmallOutbox, OutOfLimits, BrokenShelf, SlipOut}

abbrev pub number_of : Refusal → ℕ
number_of NoMemory = 0
number_of (Short at) = 1
number_of (Trailing at) = 2
number_of UnknownKind = 3
number_of (BadLayout at) = 4
number_of (NoContent at) = 5
number_of (WrongParent at) = 6
number_of (BadSeal seat) = 7
number_of LastView = 8
number_of Orphan = 9
number_of Rival = 10
number_of Full = 11
number_of Fork = 12
number_of NotLeader = 13
number_of OfferLeaving = 14
number_of OfferTooSoon = 15
number_of OfferedAlready = 16
number_of OfferSpoiled = 17
number_of NoLawfulParent = 18
number_of LastTick = 19
number_of NoPlaceLeft = 20
number_of SmallOutbox = 21
number_of OutOfLimits = 22
number_of BrokenShelf = 23
number_of SlipOut = 24

-- the offset of the field for 1 to 6, the seat asked for 7, else 0
abbrev pub detail_of : Refusal → ℕ
detail_of NoMemory = 0
detail_of (Short at) = at
detail_of (Trailing at) = at
detail_of UnknownKind = 0
detail_of (BadLayout at) = at
detail_of (NoContent at) = at
detail_of (WrongParent at) = at
detail_of (BadSeal seat) = seat
detail_of LastView = 0
detail_of Orphan = 0
detail_of Rival = 0
detail_of Full = 0
detail_of Fork = 0
detail_of NotLeader = 0
detail_of OfferLeaving = 0
detail_of OfferTooSoon = 0
detail_of OfferedAlready = 0
detail_of OfferSpoiled = 0
detail_of NoLawfulParent = 0
detail_of LastTick = 0
detail_of NoPlaceLeft = 0
detail_of SmallOutbox = 0
detail_of OutOfLimits = 0
detail_of BrokenShelf = 0
detail_of SlipOut = 0
