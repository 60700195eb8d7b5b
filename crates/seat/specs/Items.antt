-- The items of an answer, in their order, and the bytes that each stands for.
use Rattle.std.specs.Prelude.{ℕ, zero, suc, ◌-◌, cond, ◌&&◌, List, [], ◌∷◌, length, take, drop, Some, None, Option, nat_le}
use Rattle.state.specs.declared.answer.Answer.{Answer}
use Rattle.state.specs.declared.answer.Item.{Item}
use Rattle.state.specs.declared.answer.Item.TheVariants.{Inbox, Outbox}

-- an item, if there is one, in front of those that follow
abbrev pub infront : Option Item → List Item → List Item
infront None items = items
infront (Some item) items = item ∷ items

-- certificate, message, blame: those that are there
abbrev pub items_of : Answer → List Item
items_of a = infront a.certificate (infront a.message (infront a.blame []))

-- number k of a list, counted from 0
abbrev pub nth : List Item → ℕ → Option Item
nth [] k = None
nth (x ∷ xs) zero = Some x
nth (x ∷ xs) (suc k) = nth xs k

-- the whole message that was handed in, or a part of the outbox, if it lies there
abbrev pub part_of : (inbox outbox : List ℕ) → Option Item → Option (List ℕ)
part_of inbox outbox None = None
part_of inbox outbox (Some Inbox) = Some inbox
part_of inbox outbox (Some (Outbox from to)) = cond (nat_le from to && nat_le to (length outbox)) (Some (take (to - from) (drop from outbox))) None

-- item k of an answer
abbrev pub item_of : Answer → ℕ → (inbox outbox : List ℕ) → Option (List ℕ)
item_of a k inbox outbox = part_of inbox outbox (nth (items_of a) k)
