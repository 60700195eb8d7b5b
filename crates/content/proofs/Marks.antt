-- Lemmas on a chapter mark's bytes.
use Rattle.std.proofs.Common.{◌≡◌, ℕ, ◌^◌, ◌<◌, Bool, true, ◌&&◌, eqb, leb, List, length, take, drop, length-drop, Decides, ap, ◌∙◌, arith, take_all}
use Rattle.std.proofs.lemmas.Bool.{eq-eqb, and_parts, and_from}
use Rattle.std.specs.Bool.{then_some}
use Rattle.content.specs.declared.mark.ChapterMark.{ChapterMark}
use Rattle.content.specs.Kinds.{Lawful}
use Rattle.content.specs.Marks.{is_mark, marks, mark_at, mark_shown, holds, is_title, is_heading, fill, text_of}
use Rattle.content.specs.Numbers.{number, number-spell}
use Rattle.content.proofs.Contents.{decides_read}
use Rattle.content.proofs.Titles.{fill_title, fill_text, length-fill}

-- a mark's bytes hold its start and its title
mark_at-shown : (m : ChapterMark) → m.start < 2 ^ 32 → length m.title ≡ 24 → mark_at (mark_shown m) ≡ m
mark_at-shown m h l = mark_is _ _ _ _ (number-spell 4 m.start h) (take_all 24 m.title (omega arith))
  where
    mark_is : (a n : ℕ) (xs ys : List ℕ) → a ≡ n → xs ≡ ys → ◌≡◌ {A = ChapterMark} (record { start = a; title = xs }) (record { start = n; title = ys })
    mark_is a n xs ys p q = rw (p, q)

pub holds_lawful : (m : ChapterMark) → m.start < 2 ^ 32 → length m.title ≡ 24 → Decides (holds m) (Lawful marks m)
holds_lawful m h l = decides_read holds (eqb (length (mark_shown m)) 28) _ m (eq-eqb (length (mark_shown m)) 28 (omega arith)) (mark_at-shown m h l)

-- what is read from the first four bytes and the rest
pub marks_read : (src start title : List ℕ) (n : ℕ) (b : Bool) → start ≡ take 4 src → title ≡ drop 4 src → length src ≡ 28 → n ≡ number start → b ≡ is_mark n title → then_some b (record { start = n; title = title }) ≡ marks.reads src
marks_read src start title n b p q l e h =
    let rest : take 24 (drop 4 src) ≡ drop 4 src = take_all 24 (drop 4 src) (omega (arith, length-drop 4 src)) in
    let long : eqb (length src) 28 ≡ true = eq-eqb (length src) 28 l in
    rw (h, e, p, q, rest, long)

-- a mark made from a start and a text is lawful, and says that text
module _ (start : ℕ) (text title : List ℕ) (h : start < 2 ^ 32) (t : (leb start 86400 && is_heading text) ≡ true) (e : title ≡ fill text) where
  made-heading : is_heading text ≡ true
  made-heading = (and_parts (leb start 86400) (is_heading text) t).1

  pub made_back : text_of title ≡ text
  made_back = ap text_of e ∙ fill_text text made-heading

  pub made_lawful : Lawful marks (record { start = start; title = title })
  made_lawful =
      let l : length title ≡ 24 = ap length e ∙ length-fill text made-heading in
      let is : is_title title ≡ true = ap is_title e ∙ fill_title text made-heading in
      (holds_lawful (record { start = start; title = title }) h l).0 (and_from (leb start 86400) (is_title title) (and_parts (leb start 86400) (is_heading text) t).0 is)
