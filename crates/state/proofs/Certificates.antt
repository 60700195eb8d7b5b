-- Taking in a certificate, as its code does it.
use Rattle.std.proofs.Common.{◌≡◌, ℕ, ◌+◌, min, Bool, true, false, cond, not, ltb, List, length, Some, None, Ok, Err, Option, Result, sym, refl, arith}
use Rattle.std.proofs.lemmas.Bool.Decides.{nat_tests}
use Rattle.content.specs.Kinds.{Kind}
use Rattle.content.specs.declared.refusal.Refusal.{Refusal}
use Rattle.content.specs.declared.refusal.Refusal.TheVariants.{Full, Orphan, Rival}
use Rattle.blocks.specs.Ranks.{same_block}
use Rattle.blocks.specs.declared.block.Block.{Block}
use Rattle.wire.specs.declared.message.Certificate.{Certificate}
use Rattle.shelf.specs.Blocks.{find}
use Rattle.state.specs.Parts.{turn_rises, with_best, with_committed}
use Rattle.state.specs.TakeIn.{better, commits, extends, here, higher_than, judge_found, judge_in, judge_new, keep_best, parent_there, shelve}
use Rattle.state.specs.declared.state.Best.{Best}
use Rattle.state.specs.declared.state.State.{State}
use Rattle.state.specs.declared.taking.Verdict.{Verdict}
use Rattle.state.specs.declared.taking.Verdict.TheVariants.{Known, New}

module _ {X : Type 0} (x y z o : X) where
  picks_full : (a b c : Bool) → true ≡ a → true ≡ not b → z ≡ cond a (cond b (cond c x y) z) o
  picks_full a b c p q = grind (arith, nat_tests)

  picks_plain : (a b c : Bool) → true ≡ a → false ≡ not b → false ≡ c → y ≡ cond a (cond b (cond c x y) z) o
  picks_plain a b c p q r = grind (arith, nat_tests)

  picks_first : (a b c : Bool) → true ≡ a → false ≡ not b → true ≡ c → x ≡ cond a (cond b (cond c x y) z) o
  picks_first a b c p q r = grind (arith, nat_tests)

module _ {L S : ℕ} {R : Type 0} (k : Kind L R) (s : State S R) (bs : List (Block R)) (cells : ℕ) (b : Block R) where
  pub judge-full : true ≡ parent_there bs b → true ≡ not (ltb (length bs) cells) → Err Full ≡ judge_new k s bs cells b
  judge-full p q = picks_full (extends k bs s.committed b) (Ok New) (Err Full) (Err Orphan) (parent_there bs b) (ltb (length bs) cells) (commits s b) p q

  pub judge-plain : true ≡ parent_there bs b → false ≡ not (ltb (length bs) cells) → false ≡ commits s b → Ok New ≡ judge_new k s bs cells b
  judge-plain p q r = picks_plain (extends k bs s.committed b) (Ok New) (Err Full) (Err Orphan) (parent_there bs b) (ltb (length bs) cells) (commits s b) p q r

  pub judge-extends : true ≡ parent_there bs b → false ≡ not (ltb (length bs) cells) → true ≡ commits s b →
      extends k bs s.committed b ≡ judge_new k s bs cells b
  judge-extends p q r = picks_first (extends k bs s.committed b) (Ok New) (Err Full) (Err Orphan) (parent_there bs b) (ltb (length bs) cells) (commits s b) p q r

  -- a new certificate found room
  roomy : (a c : Bool) (f : Bool) (x : Result Verdict Refusal) → cond a (cond c (cond f x (Ok New)) (Err Full)) (Err Orphan) ≡ Ok New → c ≡ true
  roomy a c f x h = grind (arith, nat_tests)

  found-roomy : (o : Option (Block R)) → judge_found k s bs cells b o ≡ Ok New → ltb (length bs) cells ≡ true
  found-roomy None h = roomy (parent_there bs b) (ltb (length bs) cells) (commits s b) (extends k bs s.committed b) h
  found-roomy (Some x) h =
      let clash : (c : Bool) → ◌≡◌ {A = Result Verdict Refusal} (cond c (Ok Known) (Err Rival)) (Ok New) → ⊥ = never in
      absurd (clash (same_block k x b) h)
    where
      never : (c : Bool) → ◌≡◌ {A = Result Verdict Refusal} (cond c (Ok Known) (Err Rival)) (Ok New) → ⊥
      never true e = let z : ◌≡◌ {A = ℕ} 0 1 = cc in omega arith
      never false e = let z : ◌≡◌ {A = ℕ} 0 1 = cc in omega arith

  pub new_has_room : judge_in k s bs cells b ≡ Ok New → ltb (length bs) cells ≡ true
  new_has_room h = found-roomy (find b.rank bs) h

module _ {R : Type 0} (c : Certificate R (List ℕ)) where
  pub better_yes : (best : Option (Best R)) → true ≡ higher_than best c.block.rank → better best c ≡ Some (keep_best c)
  better_yes None h = refl
  better_yes (Some best) h = rw (sym h) refl

  pub better-no : (best : Option (Best R)) → false ≡ higher_than best c.block.rank → better best c ≡ best
  better-no None h = absurd (let z : ◌≡◌ {A = Bool} false true = h in omega (arith, bad z))
    where
      bad : ◌≡◌ {A = Bool} false true → ◌≡◌ {A = ℕ} 0 1
      bad e = cc
  better-no (Some best) h = rw (sym h) refl

module _ {S : ℕ} {R : Type 0} (c : Certificate R (List ℕ)) (s : State S R) where
  -- the turn has risen where the seat is on in the block's view
  pub rises_if : (h : Bool) (t u : State S R) → h ≡ true → u ≡ turn_rises (min (t.turn + 1) 4294967295) t →
      u ≡ cond h (turn_rises (min (t.turn + 1) 4294967295) t) t
  rises_if h t u e r = rw (e, r) refl

  pub stays_if : (h : Bool) (t u : State S R) → h ≡ false → u ≡ t → u ≡ cond h (turn_rises (min (t.turn + 1) 4294967295) t) t
  stays_if h t u e r = rw (e, r) refl

  pub shelve-is : (h f : Bool) (t u v : State S R) → h ≡ here s c.block → f ≡ commits s c.block →
      t ≡ with_best (better s.best c) s → u ≡ cond h (turn_rises (min (t.turn + 1) 4294967295) t) t →
      v ≡ cond f (with_committed c.block u) u → v ≡ shelve c s
  shelve-is h f t u v eh ef et eu ev = rw (ev, eu, et, eh, ef) refl
