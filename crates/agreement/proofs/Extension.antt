-- What is voted for after a commit stands on the committed block.
use Rattle.std.proofs.Common.{◌≡◌, ℕ, zero, suc, ◌+◌, ◌*◌, ◌<◌, ◌≤◌, true, eqb, ◌⊎◌, List, [], ◌∷◌, ◌++◌, Some, None, Ok, sym, refl, ap, ◌∙◌, subst, inl, inr, arith}
use Rattle.std.proofs.lemmas.Bool.{cases_Bool, cases_lt, cond-false, cond-true, eq-eqb, eqb-false, false≢true}
use Rattle.content.specs.Kinds.{Kind}
use Rattle.blocks.specs.Ranks.{Place, at_least, parent_of}
use Rattle.blocks.specs.declared.block.Block.{Block}
use Rattle.blocks.specs.declared.block.Rank.{Rank}
use Rattle.wire.specs.Lawful.{LawfulBlock}
use Rattle.wire.specs.Layout.{lawful_numbers}
use Rattle.state.specs.Calls.{blocks_after}
use Rattle.state.specs.Sends.{Outcome}
use Rattle.agreement.specs.Committed.{Commits, Takes}
use Rattle.agreement.specs.History.{Call, Desk, Did, Event, History, after, clock, desk, hand, offer, outcome, sent, tick}
use Rattle.agreement.specs.Run.{Run}
use Rattle.agreement.specs.Setting.{Lawful, Setting, Sound}
use Rattle.agreement.specs.Laws.{Earlier, OnShelf, Voted, shelf, stage, state}
use Rattle.agreement.proofs.Facts.{Descends, OnIn, SeatFacts, self, up}
use Rattle.agreement.proofs.Moments.{cases_earlier, cases_last, earlier_before, earlier_refl, earlier_trans, run_earlier, was-from_once}
use Rattle.agreement.proofs.Delivery.{delivered}
use Rattle.agreement.proofs.Sync.{notice-handed, stage-on}
use Rattle.agreement.proofs.OneBlock.{Clean, clean_earlier, later-turn, one-block-a-rank, shelved_everywhere, voted-later}

-- the order of places
at_least_through : (a b c : Place) → at_least a b ≡ true → at_least b c ≡ true → at_least a c ≡ true
at_least_through None None c s t = t
at_least_through None (Some b) c s t = let z : ◌≡◌ {A = ℕ} 0 1 = cc in absurd (omega arith)
at_least_through (Some a) None None s t = refl
at_least_through (Some a) None (Some c) s t = let z : ◌≡◌ {A = ℕ} 0 1 = cc in absurd (omega arith)
at_least_through (Some a) (Some b) None s t = refl
at_least_through (Some a) (Some b) (Some c) s t = grind arith

-- a block whose parent is at or above a rank does not stand on the root
parent_above : {R : Type 0} (b : Block R) (r : Rank) → at_least (parent_of b) (Some r) ≡ true → (b.height ≡ 1 → ⊥) × (at_least (Some b.parent) (Some r) ≡ true)
parent_above b r e =
    elim (cases_Bool (eqb b.height 1)) [
      | inl t ↦ absurd (false≢true (sym (ap (λ z. at_least z (Some r)) (cond-true _ _ _ t)) ∙ e))
      | inr n ↦ (eqb-false b.height 1 n, sym (ap (λ z. at_least z (Some r)) (cond-false _ _ _ n)) ∙ e)
    ]

no-lower-view : (a r : Rank) → at_least (Some a) (Some r) ≡ true → a.view < r.view → ⊥
no-lower-view a r e l = grind arith

no-lower-turn : (a r : Rank) → at_least (Some a) (Some r) ≡ true → a.view ≡ r.view → a.turn < r.turn → ⊥
no-lower-turn a r e v l = grind arith

-- a block is at or above a rank: of its rank, of its view at a later turn, or of a later view
rank_cases : (a r : Rank) → at_least (Some a) (Some r) ≡ true → (a ≡ r) ⊎ (((a.view ≡ r.view) × (r.turn < a.turn)) ⊎ (r.view < a.view))
rank_cases a r e =
    elim (cases_lt r.view a.view) [
      | inl higher ↦ inr (inr higher)
      | inr view-le ↦
          elim (cases_lt a.view r.view) [
            | inl lower ↦ absurd (no-lower-view a r e lower)
            | inr view-ge ↦
                let v : a.view ≡ r.view = omega arith in
                elim (cases_lt r.turn a.turn) [
                  | inl later ↦ inr (inl (v, later))
                  | inr turn-le ↦
                      elim (cases_lt a.turn r.turn) [
                        | inl sooner ↦ absurd (no-lower-turn a r e v sooner)
                        | inr turn-ge ↦ let t : a.turn ≡ r.turn = omega arith in inl (λ i. record { view = v i; turn = t i })
                      ]
                ]
          ]
    ]

turn-before : (p r : Rank) (view turn : ℕ) → p.view ≡ view → p.turn + 1 ≡ turn → ((view ≡ r.view) × (r.turn < turn)) ⊎ (r.view < view) → at_least (Some p) (Some r) ≡ true
turn-before p r view turn a b c = grind arith

tall-enough : (view turn height pview pturn : ℕ) → lawful_numbers view turn height pview pturn ≡ true → 1 ≤ height
tall-enough view turn height pview pturn e = grind arith

-- a number above another comes after one that is not below it
one-before : (n m : ℕ) → m < n → (u : ℕ) × (n ≡ suc u) × (m ≤ u)
one-before zero m l = absurd (omega arith)
one-before (suc u) m l = (u, refl, omega arith)

module _ {L : ℕ} {R : Type 0} (S : ℕ) (k : Kind L R) (w : Setting) where
  among-end : (b : Block R) (bs : List (Block R)) → OnShelf b (bs ++ (b ∷ []))
  among-end b [] = inl refl
  among-end b (x ∷ bs) = inr (among-end b bs)

  after-blocks : (i : ℕ) (c : Call) (d : Desk S R) (o : Outcome S R) → outcome k w i c d ≡ Ok o → (after k w i c d).blocks ≡ o.blocks
  after-blocks i (hand inbox room) d o e = ap (blocks_after d.blocks) e
  after-blocks i (tick room) d o e = ap (blocks_after d.blocks) e
  after-blocks i (offer content room) d o e = ap (blocks_after d.blocks) e
  after-blocks i sent d o e = ap (blocks_after d.blocks) e

  own-desk : (e : Event) (p : History) → desk S k w e.who (e ∷ p) ≡ after k w e.who e.what (desk S k w e.who p)
  unfolding desk
  own-desk e p = cond-true _ _ _ (eq-eqb e.who e.who refl)

  -- a block that a call took in is on the shelf after it
  pub taken-shelved : (b : Block R) (e : Event) (p : History) → Takes S k w b e p → OnShelf b (shelf S k w e.who (e ∷ p))
  taken-shelved b e p (o, done, grown) =
      let now : shelf S k w e.who (e ∷ p) ≡ shelf S k w e.who p ++ (b ∷ []) =
      ap (λ (d : Desk S R). d.blocks) (own-desk e p) ∙ (after-blocks e.who e.what (desk S k w e.who p) o done ∙ grown) in
      subst (OnShelf b) (sym now) (among-end b (shelf S k w e.who p))

  -- a call by which a seat committed a block itself
  pub record Committing (i : ℕ) (b : Block R) (e : Event) (p : History) : Type 0 where
    pub mine : e.who ≡ i
    pub height : Did S k w (λ o. 0 < o.height) e p
    pub takes : Takes S k w b e p

  pub commit-was : (i : ℕ) (b : Block R) (h : History) → Commits S k w i b h → (e : Event) × (p : History) × Earlier (e ∷ p) h × Committing i b e p
  commit-was i b h c =
      let (q, e, p, place, (mine, (height, takes))) = was-from_once (λ e p. (e.who ≡ i) × (Did S k w (λ o. 0 < o.height) e p × Takes S k w b e p)) h c in
      (e, p, (q, place), record { mine = mine; height = height; takes = takes })

  pub commit-shelved : (i : ℕ) (b : Block R) (e : Event) (p : History) → Committing i b e p → OnShelf b (shelf S k w i (e ∷ p))
  commit-shelved i b e p c = subst (λ z. OnShelf b (shelf S k w z (e ∷ p))) c.mine (taken-shelved b e p c.takes)

module _ {L : ℕ} {R : Type 0} (S : ℕ) (k : Kind L R) (w : Setting) (lawful : Lawful w) (f : SeatFacts S k w) where
  commit-stage : (i : ℕ) (b : Block R) (e : Event) (p : History) → Run S k w (e ∷ p) → Committing S k w i b e p → stage (state S k w i p) ≡ 2 * b.rank.view
  commit-stage i b e p run c =
      let on : OnIn S k w i b.rank.view p = subst (λ z. OnIn S k w z b.rank.view p) c.mine (f.commit-on e p b run c.height c.takes) in
      stage-on (state S k w i p) b.rank.view on.0 on.1

  -- a commit lies before the moment at which its seat has left the view
  commit-before : (i v : ℕ) (b : Block R) (e : Event) (p g h : History) → Run S k w h → Sound w i → Earlier (e ∷ p) h → Earlier g h → Committing S k w i b e p →
      b.rank.view ≤ v → 2 * v + 1 ≤ stage (state S k w i g) → Earlier (e ∷ p) g
  commit-before i v b e p g h run si s t c low left =
      let run_e : Run S k w (e ∷ p) = run_earlier S k w (e ∷ p) h s run in
      let there : stage (state S k w i p) ≡ 2 * b.rank.view = commit-stage i b e p run_e c in
      elim (cases_earlier (e ∷ p) g h s t) [
        | inl first ↦ first
        | inr late ↦
            elim (cases_last g p e late) [
              | inl same ↦ subst (Earlier (e ∷ p)) same (earlier_refl (e ∷ p))
              | inr old ↦
                  let up : stage (state S k w i g) ≤ stage (state S k w i p) = f.stage_rises i g p si run_e.1 old in
                  absurd (omega arith)
            ]
      ]

  -- the lock of a sound seat on in a later view covers every block that a sound seat committed
  pub lock-holds : (i j v : ℕ) (b : Block R) (e : Event) (p g h : History) → Run S k w h → Clean S k w h → Sound w i → Sound w j →
      Earlier (e ∷ p) h → Committing S k w i b e p → Earlier g h → OnIn S k w j (suc v) g → b.rank.view ≤ v →
      at_least (state S k w j g).lock (Some b.rank) ≡ true
  lock-holds i j v b e p g h run clean si sj s c t on low =
      let run_g : Run S k w g = run_earlier S k w g h t run in
      let (few, (q, y, z, place, entry)) = f.entry j v g sj run_g on in
      let (q', x, r, place', (mine, (m, sends, reads), late)) = entry.notice in
      let entered : Earlier (y ∷ z) g = (q, place) in
      let run_y : Run S k w (y ∷ z) = run_earlier S k w (y ∷ z) g entered run_g in
      let noticed : Earlier (x ∷ r) (y ∷ z) = (y ∷ q', ap (λ a. y ∷ a) place') in
      let tick : clock S k w x.who (x ∷ r) ≡ clock S k w j (x ∷ r) = ap (λ a. clock S k w a (x ∷ r)) mine in
      let late' : clock S k w j (x ∷ r) + (2 * w.delta + 1) ≡ clock S k w j (y ∷ z) = late in
      -- the notice reached the committing seat
      let d = delivered S k w f x r (y ∷ z) m j i run_y noticed sends sj si (omega arith) in
      let heard : History = d.at ∷ d.past in
      let by : clock S k w i heard ≤ clock S k w x.who (x ∷ r) + w.delta = d.by in
      let (mask, seals, good) = notice-handed S k w v m d.at reads d.hands in
      let carried : 2 * v + 1 ≤ stage (state S k w d.at.who heard) =
      f.notice-carried d.at d.past v mask seals (run_earlier S k w heard (y ∷ z) d.before run_y) good (omega arith) in
      let left : 2 * v + 1 ≤ stage (state S k w i heard) = subst (λ a. 2 * v + 1 ≤ stage (state S k w a heard)) d.mine carried in
      let heard-h : Earlier heard h = earlier_trans heard (y ∷ z) h d.before (earlier_trans (y ∷ z) g h entered t) in
      let first : Earlier (e ∷ p) heard = commit-before i v b e p heard h run si s heard-h c low left in
      -- so its certificate reached the seat before it entered the view
      let (q'', x'', r'', place'', (mine'', _, sends'')) = f.shelved-sent i (e ∷ p) b si (run_earlier S k w (e ∷ p) h s run) (commit-shelved S k w i b e p c) in
      let sent'' : Earlier (x'' ∷ r'') heard = earlier_trans (x'' ∷ r'') (e ∷ p) heard (q'', place'') first in
      let tick'' : clock S k w x''.who (x'' ∷ r'') ≡ clock S k w i (x'' ∷ r'') = ap (λ a. clock S k w a (x'' ∷ r'')) mine'' in
      let up'' : clock S k w i (x'' ∷ r'') ≤ clock S k w i heard = f.clock_rises i (x'' ∷ r'') heard sent'' in
      let clean-y : Clean S k w (y ∷ z) = clean_earlier S k w (y ∷ z) h (earlier_trans (y ∷ z) g h entered t) clean in
      let (a, past, shelved, in_time_lem) = shelved_everywhere S k w lawful f b x'' r'' (y ∷ z) j j run_y clean-y
      (earlier_trans (x'' ∷ r'') heard (y ∷ z) sent'' d.before) sends'' sj sj (omega arith) in
      let in_time' : clock S k w j a ≤ clock S k w x''.who (x'' ∷ r'') + w.delta = in_time_lem in
      elim (cases_last a z y past) [
        | inl same ↦
            let now : clock S k w j (y ∷ z) ≡ clock S k w j a = ap (clock S k w j) same in
            absurd (omega arith)
        | inr old ↦ entry.locks b (f.shelf_grows j a z b old shelved)
      ]

  -- a block that was voted for, at a later turn, has its parent at or above the rank
  later-extends : (y : Block R) (r : Rank) → LawfulBlock k y → 0 < y.rank.turn → ((y.rank.view ≡ r.view) × (r.turn < y.rank.turn)) ⊎ (r.view < y.rank.view) →
      (1 < y.height) × (at_least (Some y.parent) (Some r) ≡ true)
  later-extends y r law later higher =
      let (tall, view, turn) = later-turn y.rank.view y.rank.turn y.height y.parent.view y.parent.turn law.numbers later in
      (tall, turn-before y.parent r y.rank.view y.rank.turn view turn higher)

  -- what sound seats vote for at or above a committed block is that block, or has its parent at or above it
  pub extends : (i : ℕ) (b y : Block R) (e : Event) (p h : History) → Run S k w h → Clean S k w h → Sound w i → Earlier (e ∷ p) h → Committing S k w i b e p →
      Voted S k w y h → at_least (Some y.rank) (Some b.rank) ≡ true → (y ≡ b) ⊎ ((1 < y.height) × (at_least (Some y.parent) (Some b.rank) ≡ true))
  extends i b y e p h run clean si s c voted above =
      let (q, e', p', place, (sj, votes)) = voted in
      let s' : Earlier (e' ∷ p') h = (q, place) in
      let v = f.ballot e' p' y (run_earlier S k w (e' ∷ p') h s' run) votes in
      elim (rank_cases y.rank b.rank above) [
        | inl same ↦
            let mine : Voted S k w b (e ∷ p) = f.shelved-voted i (e ∷ p) b si (run_earlier S k w (e ∷ p) h s run) (commit-shelved S k w i b e p c) in
            inl (one-block-a-rank S k w lawful f y b h run clean voted (voted-later S k w b (e ∷ p) h s mine) same)
        | inr (inl (view, later)) ↦ inr (later-extends y b.rank v.lawful (omega arith) (inl (view, later)))
        | inr (inr higher) ↦
            elim (cases_lt 0 y.rank.turn) [
              | inl later ↦ inr (later-extends y b.rank v.lawful later (inr higher))
              | inr first ↦
                  let (u, is, low) = one-before y.rank.view b.rank.view higher in
                  let on : OnIn S k w e'.who (suc u) p' = subst (λ z. OnIn S k w e'.who z p') is v.on_there in
                  let lock : at_least (state S k w e'.who p').lock (Some b.rank) ≡ true =
                  lock-holds i e'.who u b e p p' h run clean si sj s c (earlier_before e' p' h s') on low in
                  let (no-root, parent) = parent_above y b.rank
                  (at_least_through (parent_of y) (state S k w e'.who p').lock (Some b.rank) (v.above-lock (omega arith)) lock) in
                  let high : 1 ≤ y.height = tall-enough y.rank.view y.rank.turn y.height y.parent.view y.parent.turn v.lawful.numbers in
                  inr (omega (arith, no-root), parent)
            ]
      ]

  -- so on every sound shelf a committed block is an ancestor of every block at or above it
  walk : (n i j : ℕ) (b y : Block R) (e : Event) (p h : History) → Run S k w h → Clean S k w h → Sound w i → Sound w j → Earlier (e ∷ p) h → Committing S k w i b e p →
      y.height ≤ n → OnShelf y (shelf S k w j h) → at_least (Some y.rank) (Some b.rank) ≡ true → Descends (shelf S k w j h) y b
  walk zero i j b y e p h run clean si sj s c small on above =
      let law = f.shelf-lawful j h y sj run on in
      let high : 1 ≤ y.height = tall-enough y.rank.view y.rank.turn y.height y.parent.view y.parent.turn law.numbers in
      absurd (omega arith)
  walk (suc n) i j b y e p h run clean si sj s c small on above =
      let rec : (z : Block R) → z.height ≤ n → OnShelf z (shelf S k w j h) → at_least (Some z.rank) (Some b.rank) ≡ true → Descends (shelf S k w j h) z b =
      λ z. walk n i j b z e p h run clean si sj s c in
      elim (extends i b y e p h run clean si s c (f.shelved-voted j h y sj run on) above) [
        | inl same ↦ subst (Descends (shelf S k w j h) y) same (self y on)
        | inr (tall, high) ↦
            elim (f.shelf-closed j h y sj run on) [
              | inl one ↦ absurd (omega arith)
              | inr (z, there, rank, height) ↦
                  up y z b on tall rank height (rec z (omega arith) there (subst (λ r. at_least (Some r) (Some b.rank) ≡ true) (sym rank) high))
            ]
      ]

  pub descends_from-commit : (i j : ℕ) (b y : Block R) (e : Event) (p h : History) → Run S k w h → Clean S k w h → Sound w i → Sound w j →
      Earlier (e ∷ p) h → Committing S k w i b e p → OnShelf y (shelf S k w j h) → at_least (Some y.rank) (Some b.rank) ≡ true → Descends (shelf S k w j h) y b
  descends_from-commit i j b y e p h run clean si sj s c on above = walk y.height i j b y e p h run clean si sj s c (omega arith) on above
