-- What a chapter mark is: a start in whole seconds and a title, and their bytes.
use Rattle.std.specs.Prelude.{◌≡◌, ℕ, ◌-◌, ◌≤◌, Bool, ◌&&◌, List, ◌++◌, length, take, drop, replicate, Some, Option, Result, ◌==◌, nat_le, nat_lt}
use Rattle.std.proofs.Common.{sym, ap, ◌∙◌, arith, lit≤, length-drop, take-append-drop, length-take-le, take_all}
use Rattle.std.specs.Bool.{then_some}
use Rattle.std.specs.List.{list_all, prefix_len}
use Rattle.std.proofs.lemmas.Bool.{eqb-true, and_parts}
use Rattle.content.specs.declared.mark.ChapterMark.{ChapterMark}
use Rattle.content.specs.declared.refusal.Refusal.{Refusal}
use Rattle.content.specs.Kinds.{Bytes, Kind, ok_if, joins, when_is}
use Rattle.content.specs.Numbers.{number, spell, spell-all, bytes_take}

-- a byte of text: 32 to 126
abbrev pub is_text : ℕ → Bool
is_text b = nat_le 32 b && nat_le b 126

-- how many bytes of text stand at the front
abbrev pub text_length : List ℕ → ℕ
text_length = prefix_len is_text

abbrev pub all_zero : List ℕ → Bool
all_zero = list_all (λ b. b == 0)

-- a title: a byte of text or more, and after the text only zero bytes
abbrev pub is_title : List ℕ → Bool
is_title xs = nat_lt 0 (text_length xs) && all_zero (drop (text_length xs) xs)

-- a start of 0 to 86,400 seconds, and a title
abbrev pub is_mark : ℕ → List ℕ → Bool
is_mark start title = nat_le start 86400 && is_title title

abbrev pub holds : ChapterMark → Bool
holds m = is_mark m.start m.title

-- a mark's bytes: its start in 4 bytes, low byte first, then the 24 bytes of its title
abbrev pub mark_shown : ChapterMark → List ℕ
mark_shown m = spell 4 m.start ++ m.title

abbrev pub mark_at : List ℕ → ChapterMark
mark_at xs = record { start = number (take 4 xs); title = take 24 (drop 4 xs) }

abbrev pub mark_reads : List ℕ → Option ChapterMark
mark_reads xs = then_some (length xs == 28 && holds (mark_at xs)) (mark_at xs)

-- the laws that every kind of content owes
pub mark_sized : (xs : List ℕ) (m : ChapterMark) → mark_reads xs ≡ Some m → length xs ≡ 28
mark_sized xs m h = eqb-true (length xs) 28 (and_parts _ _ (when_is _ _ m h).0).0

pub mark_back : (xs : List ℕ) (m : ChapterMark) → Bytes xs → mark_reads xs ≡ Some m → mark_shown m ≡ xs
mark_back xs m h r =
    let l : length xs ≡ 28 = mark_sized xs m r in
    let p : length (take 4 xs) ≡ 4 = length-take-le 4 xs (omega arith) in
    let n : length (drop 4 xs) ≤ 24 = omega (arith, length-drop 4 xs) in
    let start = spell-all 4 (take 4 xs) (bytes_take 4 xs h) p in
    let title = take_all 24 (drop 4 xs) n in
    ap mark_shown (sym (when_is _ _ m r).1) ∙ joins _ _ _ _ start title ∙ take-append-drop 4 xs

abbrev pub marks : Kind 28 ChapterMark
marks = record { reads = mark_reads; shown = mark_shown; low = lit≤ tt; high = lit≤ tt; sized = mark_sized; back = mark_back }

-- the text of a title: 1 to 24 bytes, all of them text
abbrev pub is_heading : List ℕ → Bool
is_heading text = nat_lt 0 (length text) && (nat_le (length text) 24 && text_length text == length text)

-- filled up with zero bytes
abbrev pub fill : List ℕ → List ℕ
fill text = text ++ replicate (24 - length text) 0

-- a mark made from a start and a text
abbrev pub mark_of : ℕ → List ℕ → Result ChapterMark Refusal
mark_of start text = ok_if (nat_le start 86400 && is_heading text) (record { start = start; title = fill text })

-- the text of a title
abbrev pub text_of : List ℕ → List ℕ
text_of title = take (text_length title) title
