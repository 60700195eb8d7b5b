-- Agreement, from the facts about one seat: no certificate is refused, and sound seats commit one block a height.
use Rattle.std.proofs.Common.{◌≡◌, ℕ, ◌+◌, true, ◌⊎◌, List, [], ◌∷◌, Some, Ok, Option, Result, sym, ap, ◌∙◌, subst, inl, inr, arith}
use Rattle.std.proofs.lemmas.Bool.{cases_Bool, cond-false, ne_eqb, not_from_false}
use Rattle.content.specs.Kinds.{Kind}
use Rattle.content.specs.declared.refusal.Refusal.{Refusal}
use Rattle.content.specs.declared.refusal.Refusal.TheVariants.{Orphan, Rival, Fork}
use Rattle.blocks.specs.Ranks.{at_least, below, parent_of}
use Rattle.blocks.specs.declared.block.Block.{Block}
use Rattle.blocks.specs.declared.block.Rank.{Rank}
use Rattle.shelf.specs.Blocks.{read_below}
use Rattle.agreement.specs.Committed.{Committed, Commits, Takes, Took, ancestor, direct}
use Rattle.agreement.specs.History.{Event, History, Once, Refused}
use Rattle.agreement.specs.Run.{Run}
use Rattle.agreement.specs.Setting.{Lawful, Setting, Sound}
use Rattle.agreement.specs.Theorem.{Agrees, ClashUnderSoundLeader}
use Rattle.agreement.specs.Laws.{Earlier, OnShelf, Voted, shelf}
use Rattle.agreement.proofs.Facts.{Descends, SeatFacts, self, up}
use Rattle.agreement.proofs.Moments.{earlier_before, earlier_trans, never-from_always, was-from_once}
use Rattle.agreement.proofs.OneBlock.{Clean, CleanAt, one-block-a-rank, parent_everywhere}
use Rattle.agreement.proofs.Extension.{commit-shelved, commit-was, descends_from-commit, extends, taken-shelved}

below-above : (a b : Rank) → below a b ≡ true → at_least (Some b) (Some a) ≡ true
below-above a b t = grind arith

-- of two ranks one is at least the other
at_least_either : (a b : Rank) → (at_least (Some a) (Some b) ≡ true) ⊎ (at_least (Some b) (Some a) ≡ true)
at_least_either a b =
    elim (cases_Bool (below a b)) [
      | inl t ↦ inr (below-above a b t)
      | inr t ↦ inl (not_from_false (below a b) t)
    ]

never-below_itself : (a : Rank) → below a a ≡ true → ⊥
never-below_itself a t = grind arith

module _ {R : Type 0} where
  -- ancestors of ancestors are ancestors
  descends_through : (bs : List (Block R)) (b c d : Block R) → Descends bs b c → Descends bs c d → Descends bs b d
  descends_through bs b c d (self x on) t = t
  descends_through bs b c d (up x y z on tall rank height rest) t = up x y d on tall rank height (descends_through bs y c d rest t)

  descends_on : (bs : List (Block R)) (b d : Block R) → Descends bs b d → OnShelf b bs
  descends_on bs b d (self x on) = on
  descends_on bs b d (up x y z on tall rank height rest) = on

  descends_to : (bs : List (Block R)) (b d : Block R) → Descends bs b d → OnShelf d bs
  descends_to bs b d (self x on) = on
  descends_to bs b d (up x y z on tall rank height rest) = descends_to bs y d rest

  read_same : (b c : Block R) (r : Result (Option (Block R)) Refusal) → r ≡ Ok (Some b) → r ≡ Ok (Some c) → b ≡ c
  read_same b c r s t = cc

module _ {L : ℕ} {R : Type 0} (S : ℕ) (k : Kind L R) (w : Setting) (lawful : Lawful w) (f : SeatFacts S k w) where
  -- no certificate comes without its parent
  orphan_never : (e : Event) (p : History) → Run S k w (e ∷ p) → Clean S k w p → Refused S k w Orphan e p → ⊥
  orphan_never e p run clean refused =
      let (b, candidate, none) = f.orphan_because e p run refused in
      none (parent_everywhere S k w lawful f b e.who p run.1 clean run.0.driven.at_sound candidate.voted)

  -- nor beside a rival
  rival-never : (e : Event) (p : History) → Run S k w (e ∷ p) → Clean S k w p → Refused S k w Rival e p → ⊥
  rival-never e p run clean refused =
      let (b, c, candidate, on, rank, differ) = f.rival_because e p run refused in
      let voted : Voted S k w c p = f.shelved-voted e.who p c run.0.driven.at_sound run.1 on in
      differ (one-block-a-rank S k w lawful f b c p run.1 clean candidate.voted voted (sym rank))

  -- nor off the committed blocks
  fork-never : (e : Event) (p : History) → Run S k w (e ∷ p) → Clean S k w p → Refused S k w Fork e p → ⊥
  fork-never e p run clean refused =
      let (b, c, candidate, _, was, parent-on, lower, _, differ) = f.fork_because e p run refused in
      let sj = run.0.driven.at_sound in
      let (e', p', s, done) = commit-was S k w e.who c p (f.committed-was e.who p c sj run.1 was) in
      elim (extends S k w lawful f e.who c b e' p' p run.1 clean sj s done candidate.voted (below-above c.rank b.rank lower)) [
        | inl same ↦ never-below_itself c.rank (subst (λ (z : Block R). below c.rank z.rank ≡ true) same lower)
        | inr (tall, high) ↦
            elim parent-on [
              | inl one ↦ absurd (omega arith)
              | inr (d, on, rank, height) ↦
                  let line : Descends (shelf S k w e.who p) d c =
                  descends_from-commit S k w lawful f e.who e.who c d e' p' p run.1 clean sj sj s done on
                  (subst (λ r. at_least (Some r) (Some c.rank) ≡ true) (sym rank) high) in
                  let not-one : b.height ≡ 1 → ⊥ = λ one. omega arith in
                  let place : parent_of b ≡ Some d.rank = cond-false _ _ _ (ne_eqb b.height 1 not-one) ∙ ap Some (sym rank) in
                  differ (ap (λ z. read_below (shelf S k w e.who p) z c.height) place ∙ f.reads-ancestor e.who p d c sj run.1 line)
            ]
      ]

  -- by induction over the run, no certificate is refused
  pub clean_run : (h : History) → Run S k w h → Clean S k w h
  clean_run [] run = tt
  clean_run (e ∷ p) run =
      let clean : Clean S k w p = clean_run p run.1 in
      ((orphan_never e p run clean, rival-never e p run clean, fork-never e p run clean), clean)

  -- what a seat committed is a block that a call committed, or an ancestor of it
  committed-under : (h : History) (i : ℕ) (b : Block R) → Run S k w h → Sound w i → Committed S k w h i b →
      (x : Block R) × Commits S k w i x h × Descends (shelf S k w i h) x b
  committed-under h i b run si (direct x c) =
      let (e, p, s, done) = commit-was S k w i x h c in
      (x, c, self x (f.shelf_grows i (e ∷ p) h x s (commit-shelved S k w i x e p done)))
  committed-under h i b run si (ancestor x c below-it (tall, (rank, once))) =
      let (top, commits, line) = committed-under h i x run si below-it in
      let on-x : OnShelf x (shelf S k w i h) = descends_to (shelf S k w i h) top x line in
      let (q, e, p, place, (_, (_, took))) = was-from_once (λ e p. (e.who ≡ i) × (Takes S k w x e p × Took S k w i c p)) h once in
      let (q', e', p', place', (mine, takes)) = was-from_once (λ e p. (e.who ≡ i) × Takes S k w c e p) p took in
      let there : Earlier (e' ∷ p') h = earlier_trans (e' ∷ p') p h (q', place') (earlier_before e p h (q, place)) in
      let on-c : OnShelf c (shelf S k w i h) =
      f.shelf_grows i (e' ∷ p') h c there (subst (λ z. OnShelf c (shelf S k w z (e' ∷ p'))) mine (taken-shelved S k w c e' p' takes)) in
      elim (f.shelf-closed i h x si run on-x) [
        | inl one ↦ absurd (omega arith)
        | inr (d, on-d, rank-d, height) ↦
            let same : d ≡ c = f.one-a-rank i h d c si run on-d on-c (rank-d ∙ sym rank) in
            let lower : c.height + 1 ≡ x.height = subst (λ (z : Block R). z.height + 1 ≡ x.height) same height in
            (top, commits, descends_through (shelf S k w i h) top x c line (up x c c on-x tall rank lower (self c on-c)))
      ]

  -- the ancestors of a block are the same on every sound shelf that has it
  descends_moved : (h : History) (i j : ℕ) (x b : Block R) → Run S k w h → Clean S k w h → Sound w i → Sound w j → Descends (shelf S k w i h) x b →
      OnShelf x (shelf S k w j h) → Descends (shelf S k w j h) x b
  descends_moved h i j x b run clean si sj (self x' on) on-j = self x' on-j
  descends_moved h i j x b run clean si sj (up x' y z on tall rank height rest) on-j =
      let next : OnShelf y (shelf S k w j h) → Descends (shelf S k w j h) y z = descends_moved h i j y z run clean si sj rest in
      elim (f.shelf-closed j h x' sj run on-j) [
        | inl one ↦ absurd (omega arith)
        | inr (d, on-d, rank-d, _) ↦
            let same : d ≡ y = one-block-a-rank S k w lawful f d y h run clean (f.shelved-voted j h d sj run on-d)
            (f.shelved-voted i h y si run (descends_on (shelf S k w i h) y z rest)) (rank-d ∙ sym rank) in
            up x' y z on-j tall rank height (next (subst (λ (a : Block R). OnShelf a (shelf S k w j h)) same on-d))
      ]

  -- of two commits, the lower block and its ancestors are ancestors of the higher one
  under-higher : (h : History) (i j : ℕ) (x y b c : Block R) → Run S k w h → Clean S k w h → Sound w i → Sound w j → Commits S k w i x h →
      Descends (shelf S k w i h) x b → Descends (shelf S k w j h) y c → at_least (Some y.rank) (Some x.rank) ≡ true → b.height ≡ c.height → b ≡ c
  under-higher h i j x y b c run clean si sj commits line-b line-c above same =
      let bs = shelf S k w j h in
      let (e, p, s, done) = commit-was S k w i x h commits in
      let line : Descends bs y x = descends_from-commit S k w lawful f i j x y e p h run clean si sj s done (descends_on bs y c line-c) above in
      let moved : Descends bs x b = descends_moved h i j x b run clean si sj line-b (descends_to bs y x line) in
      let read_b : read_below bs (Some y.rank) b.height ≡ Ok (Some b) = f.reads-ancestor j h y b sj run (descends_through bs y x b line moved) in
      let read_c : read_below bs (Some y.rank) c.height ≡ Ok (Some c) = f.reads-ancestor j h y c sj run line-c in
      read_same b c (read_below bs (Some y.rank) c.height) (subst (λ n. read_below bs (Some y.rank) n ≡ Ok (Some b)) same read_b) read_c

  -- sound seats commit one block a height
  pub one_block : (h : History) (i j : ℕ) (b c : Block R) → Run S k w h → Sound w i → Sound w j → Committed S k w h i b → Committed S k w h j c →
      b.height ≡ c.height → b ≡ c
  one_block h i j b c run si sj left right same =
      let clean = clean_run h run in
      let (x, commits-x, line-b) = committed-under h i b run si left in
      let (y, commits-y, line-c) = committed-under h j c run sj right in
      elim (at_least_either y.rank x.rank) [
        | inl above ↦ under-higher h i j x y b c run clean si sj commits-x line-b line-c above same
        | inr above ↦ sym (under-higher h j i y x c b run clean sj si commits-y line-c line-b above (sym same))
      ]

  -- the theorem, but for the clash under a sound leader
  pub agrees : ((h : History) → Run S k w h → Once (ClashUnderSoundLeader S k w) h → ⊥) → (h : History) → Run S k w h → Agrees S k w h
  agrees clash h run =
      let clean = clean_run h run in
      record {
        one_block_a_height = λ i j b c. one_block h i j b c run;
        no_clash_under_a_sound_leader = clash h run;
        no_orphan = never-from_always (Refused S k w Orphan) (CleanAt S k w) (λ e p c. c.0) h clean;
        no_rival = never-from_always (Refused S k w Rival) (CleanAt S k w) (λ e p c. c.1) h clean;
        no_fork = never-from_always (Refused S k w Fork) (CleanAt S k w) (λ e p c. c.2) h clean;
      }
