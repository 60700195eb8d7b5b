-- What an edit is: which records are edits, their bytes, and the edit that a record stands for.
use Rattle.std.specs.Prelude.{◌≡◌, ℕ, suc, ◌≤◌, Bool, false, cond, ◌&&◌, ◌||◌, List, [], ◌∷◌, ◌++◌, length, take, drop, Some, Ok, Option, Result, ◌==◌, from_bits, slice_index, to_bits, Float}
use Rattle.std.proofs.Common.{sym, ap, ◌∙◌, arith, lit≤, length-drop, take-append-drop, length-take-le, take_all}
use Rattle.std.specs.Float.{binary64}
use Rattle.std.specs.Float.Ieee.{le, lt, ne}
use Rattle.std.proofs.lemmas.Bool.{eqb-true, and_parts}
use Rattle.std.specs.Bool.{then_some}
use Rattle.content.specs.Kinds.{Bytes, Kind, next, ok_if, read_content, joins, when_is}
use Rattle.content.specs.Numbers.{number, spell, spell-all, bytes_take, bytes_drop}
use Rattle.content.specs.declared.edit.Edit.{Edit}
use Rattle.content.specs.declared.edit.Edit.TheVariants.{Trim, Gain, Undo, Save}
use Rattle.content.specs.declared.edit.EditRecord.{EditRecord}
use Rattle.content.specs.declared.refusal.Refusal.{Refusal}

-- the IEEE 754 binary64 number of a bit pattern
abbrev pub value : ℕ → Float
value bits = from_bits binary64 bits

-- a number of the range, ends included; zero has all bits zero, and a NaN is in no range
abbrev pub within : Float → Float → ℕ → Bool
within least most bits = le least (value bits) && (le (value bits) most && (ne (value bits) (value 0) || bits == 0))

-- a second: 0 to 86,400
abbrev pub is_second : ℕ → Bool
is_second = within (value 0) (value 0x40f5180000000000)

-- a gain in decibels: -60 to 12
abbrev pub is_gain : ℕ → Bool
is_gain = within (value 0xc04e000000000000) (value 0x4028000000000000)

abbrev pub below : ℕ → ℕ → Bool
below a b = lt (value a) (value b)

-- which tags and bit patterns are an edit: 0 trims from a second to a later one, 1 gives a second its gain,
-- 2 undoes and 3 saves
abbrev pub is_edit : ℕ → ℕ → ℕ → Bool
is_edit tag first second =
    cond (tag == 0) (is_second first && (is_second second && below first second))
    (cond (tag == 1) (is_second first && is_gain second)
    (cond (tag == 2 || tag == 3) (first == 0 && second == 0) false))

abbrev pub stands : EditRecord → Bool
stands e = is_edit e.tag e.first e.second

-- an edit's bytes: its tag, then its two numbers of 8 bytes, low byte first
abbrev pub edit_shown : EditRecord → List ℕ
edit_shown e = e.tag ∷ (spell 8 e.first ++ spell 8 e.second)

abbrev pub edit_at : List ℕ → EditRecord
edit_at xs = record { tag = slice_index xs 0; first = number (take 8 (drop 1 xs)); second = number (take 8 (drop 9 xs)) }

abbrev pub edit_reads : List ℕ → Option EditRecord
edit_reads xs = then_some (length xs == 17 && stands (edit_at xs)) (edit_at xs)

-- the laws that every kind of content owes
pub edit_sized : (xs : List ℕ) (e : EditRecord) → edit_reads xs ≡ Some e → length xs ≡ 17
edit_sized xs e h = eqb-true (length xs) 17 (and_parts _ _ (when_is _ _ e h).0).0

pub edit_back : (xs : List ℕ) (e : EditRecord) → Bytes xs → edit_reads xs ≡ Some e → edit_shown e ≡ xs
edit_back [] e h r = absurd (let l : 0 ≡ 17 = edit_sized [] e r in omega arith)
edit_back (x ∷ ys) e h r =
    let l : suc (length ys) ≡ 17 = edit_sized (x ∷ ys) e r in
    let b : Bytes ys = λ i. h (suc i) in
    let p : length (take 8 ys) ≡ 8 = length-take-le 8 ys (omega arith) in
    let n : length (drop 8 ys) ≤ 8 = omega (arith, length-drop 8 ys) in
    let q : length (take 8 (drop 8 ys)) ≡ 8 = length-take-le 8 (drop 8 ys) (omega (arith, length-drop 8 ys)) in
    let one = spell-all 8 (take 8 ys) (bytes_take 8 ys b) p in
    let two = spell-all 8 (take 8 (drop 8 ys)) (bytes_take 8 (drop 8 ys) (bytes_drop 8 ys b)) q in
    let parts = joins _ _ _ _ one (two ∙ take_all 8 (drop 8 ys) n) ∙ take-append-drop 8 ys in
    ap edit_shown (sym (when_is _ _ e r).1) ∙ ap (λ (zs : List ℕ). x ∷ zs) parts

abbrev pub edits : Kind 17 EditRecord
edits = record { reads = edit_reads; shown = edit_shown; low = lit≤ tt; high = lit≤ tt; sized = edit_sized; back = edit_back }

-- the edit of a tag and two numbers
abbrev pub named : ℕ → Float → Float → Edit
named tag x y = cond (tag == 0) (Trim x y) (cond (tag == 1) (Gain x y) (cond (tag == 2) Undo Save))

-- the edit that a record stands for
abbrev pub called : EditRecord → Edit
called e = named e.tag (value e.first) (value e.second)

abbrev pub edit_of : EditRecord → Result Edit Refusal
edit_of e = ok_if (stands e) (called e)

-- the record of an edit, which stands if the edit's numbers are lawful
abbrev pub kept : Edit → EditRecord
kept (Trim x y) = record { tag = 0; first = to_bits binary64 x; second = to_bits binary64 y }
kept (Gain x y) = record { tag = 1; first = to_bits binary64 x; second = to_bits binary64 y }
kept Undo = record { tag = 2; first = 0; second = 0 }
kept Save = record { tag = 3; first = 0; second = 0 }

abbrev pub record_of : Edit → Result EditRecord Refusal
record_of e = ok_if (stands (kept e)) (kept e)

-- an edit from bytes, and its bytes
abbrev pub edit_from : List ℕ → Result Edit Refusal
edit_from xs = next (read_content edits xs) edit_of

abbrev pub edit_bytes : Edit → Result (List ℕ) Refusal
edit_bytes e = next (record_of e) (λ r. Ok (edit_shown r))
