-- The tick's outcomes, piece by piece, as its code makes them.
use Rattle.std.proofs.Common.{◌≡◌, ℕ, ◌+◌, ◌-◌, ◌*◌, ◌≤◌, min, Bool, true, false, cond, leb, List, [], length, is_some, Some, None, Ok, Option, Result, sym, refl, ap, ◌∙◌, subst, arith}
use lib.ListN.{length-replicate}
use Rattle.content.specs.Kinds.{Kind}
use Rattle.blocks.specs.declared.block.Block.{Block}
use Rattle.wire.specs.declared.message.Parts.TheVariants.{Vote}
use Rattle.shelf.specs.Blocks.{top_turn}
use Rattle.state.specs.HandIn.{idle, last_view, own_blame}
use Rattle.state.specs.Parts.{with_blamed, with_note, with_now}
use Rattle.state.specs.Sends.{Outcome, Sending, answer_of, end_of, item_at, outbox_after, put_item, relay, size_of, write, zero_seal}
use Rattle.state.specs.Tick.{after_blame, after_vote, blame_due, blame_of, blames, enter, entered, entered_at, leaving_tick, on_tick, sending, ticked, tick_step, turn_after, vote_due, vote_of, voted_for}
use Rattle.state.specs.declared.answer.Answer.{Answer}
use Rattle.state.specs.declared.answer.Item.{Item}
use Rattle.state.specs.declared.answer.Word.{Word}
use Rattle.state.specs.declared.answer.Word.TheVariants.{Blamed, Entered, Idle, Voted}
use Rattle.state.specs.declared.state.Note.{Note}
use Rattle.state.specs.declared.state.Phase.TheVariants.{On, Leaving}
use Rattle.state.specs.declared.state.Phase.{Phase}
use Rattle.state.specs.declared.state.State.{State}
use Rattle.state.specs.declared.state.Terms.{Terms}

pub ok_same : {X E : Type 0} {x y : X} → ◌≡◌ {A = Result X E} (Ok x) (Ok y) → x ≡ y
ok_same e = cc

-- what a call shows of an outcome: its answer, its state, its outbox
pub record Shows {L S : ℕ} {R : Type 0} (k : Kind L R) (o : Outcome S R) (answer : Answer) (state : State S R) (out out' : List ℕ) : Type 0 where
  pub answer_is : answer ≡ answer_of k o
  pub state_is : state ≡ o.state
  pub outbox_is : out' ≡ outbox_after k o.sends out

module _ {L S : ℕ} {R : Type 0} (k : Kind L R) (p : Terms) where
  -- the blocks do not matter to what is shown
  pub entered_shows : (s : State S R) (bs cs : List (Block R)) (b : Bool) (answer : Answer) (state : State S R) (out out' : List ℕ) →
      Shows k (entered_at p s bs b) answer state out out' → Shows k (entered_at p s cs b) answer state out out'
  entered_shows s bs cs true answer state out out' h = record { answer_is = h.answer_is; state_is = h.state_is; outbox_is = h.outbox_is }
  entered_shows s bs cs false answer state out out' h = record { answer_is = h.answer_is; state_is = h.state_is; outbox_is = h.outbox_is }

  pub leaving_waits : (since : ℕ) (s : State S R) (bs : List (Block R)) → leb (2 * p.delta + 1) (s.now - since) ≡ false →
      leaving_tick p since s bs ≡ idle s bs
  leaving_waits since s bs e = rw e refl

  pub leaving-enters : (since : ℕ) (s : State S R) (bs : List (Block R)) → leb (2 * p.delta + 1) (s.now - since) ≡ true →
      leaving_tick p since s bs ≡ entered p (enter (min (s.view + 1) last_view) (turn_after (top_turn (min (s.view + 1) last_view) bs)) s) bs
  leaving-enters since s bs e = rw e refl

  pub leaving_shows : (since view turn : ℕ) (top : Option ℕ) (s s1 s2 : State S R) (bs : List (Block R)) (answer : Answer) (out out' : List ℕ) →
      leb (2 * p.delta + 1) (s.now - since) ≡ true → view ≡ min (s.view + 1) last_view → top ≡ top_turn view bs → turn ≡ turn_after top →
      s1 ≡ enter view turn s → Shows k (entered_at p s1 [] s1.spoiled) answer s2 out out' → Shows k (leaving_tick p since s bs) answer s2 out out'
  leaving_shows since view turn top s s1 s2 bs answer out out' el ev ep et es h =
      let last : ℕ = min (s.view + 1) last_view in
      let e : s1 ≡ enter last (turn_after (top_turn last bs)) s =
      es ∙ (ap (λ t. enter view t s) (et ∙ ap turn_after (ep ∙ ap (λ v. top_turn v bs) ev)) ∙ ap (λ v. enter v (turn_after (top_turn last bs)) s) ev) in
      subst (λ (o : Outcome S R). Shows k o answer s2 out out') (ap (λ x. entered p x bs) e ∙ sym (leaving-enters since s bs el))
      (entered_shows s1 [] bs s1.spoiled answer s2 out out' h)

  -- a seat that is spoiled as it enters
  pub entered-blames : (s s1 : State S R) (bs : List (Block R)) (b : Bool) (item : Item) (out out' : List ℕ) → b ≡ true →
      Some item ≡ item_at k 0 (Some (own_blame p s)) → s1 ≡ with_blamed true s → out' ≡ put_item k 0 (Some (own_blame p s)) out →
      Shows k (entered_at p s bs b) (record { word = Blamed; height = 0; certificate = None; message = None; blame = Some item }) s1 out out'
  entered-blames s s1 bs b item out out' e ei es eo =
      subst (λ v. Shows k (entered_at p s bs v) (record { word = Blamed; height = 0; certificate = None; message = None; blame = Some item }) s1 out out') (sym e)
      (record { answer_is = rw ei refl; state_is = es; outbox_is = eo })

  -- the blame after the vote, by whether it is due
  blame_shows : (d : Bool) (word last : Word) (msg : Option (Sending R)) (s s2 : State S R) (bs : List (Block R)) (m b : Option Item) (from : ℕ) (out out1 out2 : List ℕ) →
      m ≡ item_at k 0 msg → out1 ≡ put_item k 0 msg out → from ≡ 0 + size_of k msg →
      b ≡ item_at k from (cond d (Some (own_blame p s)) None) → s2 ≡ cond d (with_blamed true s) s →
      out2 ≡ put_item k from (cond d (Some (own_blame p s)) None) out1 → last ≡ cond (is_some b) Blamed word →
      Shows k (cond d (sending Blamed msg (Some (own_blame p s)) (with_blamed true s) bs) (sending word msg None s bs))
      (record { word = last; height = 0; certificate = None; message = m; blame = b }) s2 out out2
  blame_shows true word last msg s s2 bs m b from out out1 out2 em eo1 ef eb es eo2 ew =
      record { answer_is = rw (ew, eb, em, ef) refl; state_is = es; outbox_is = rw (eo2, eo1, ef) refl }
  blame_shows false word last msg s s2 bs m b from out out1 out2 em eo1 ef eb es eo2 ew =
      record { answer_is = rw (ew, eb, em) refl; state_is = es; outbox_is = rw (eo2, eo1) refl }

  -- the vote, by whether it is due, then the blame
  vote_shows : (v : Bool) (last : Word) (vote : Sending R) (s sv s1 s2 : State S R) (bs : List (Block R)) (m b : Option Item) (from : ℕ) (out out1 out2 : List ℕ) →
      end_of (item_at k 0 (Some vote)) ≡ 0 + size_of k (Some vote) → is_some (item_at k 0 (Some vote)) ≡ true →
      m ≡ item_at k 0 (cond v (Some vote) None) → s1 ≡ cond v sv s → out1 ≡ put_item k 0 (cond v (Some vote) None) out →
      from ≡ end_of m → b ≡ item_at k from (blame_of p s1) → s2 ≡ after_blame p s1 → out2 ≡ put_item k from (blame_of p s1) out1 →
      last ≡ cond (is_some b) Blamed (cond (is_some m) Voted Idle) →
      Shows k (cond v (blames p Voted (Some vote) sv bs) (blames p Idle None s bs))
      (record { word = last; height = 0; certificate = None; message = m; blame = b }) s2 out out2
  vote_shows true last vote s sv s1 s2 bs m b from out out1 out2 ee ei em es1 eo1 ef eb es2 eo2 ew =
      subst (λ (x : State S R). Shows k (blames p Voted (Some vote) x bs) (record { word = last; height = 0; certificate = None; message = m; blame = b }) s2 out out2) es1
      (blame_shows (blame_due p s1) Voted last (Some vote) s1 s2 bs m b from out out1 out2 em eo1 (ef ∙ (ap end_of em ∙ ee)) eb es2 eo2
      (ew ∙ ap (λ x. cond (is_some b) Blamed (cond x Voted Idle)) (ap is_some em ∙ ei)))
  vote_shows false last vote s sv s1 s2 bs m b from out out1 out2 ee ei em es1 eo1 ef eb es2 eo2 ew =
      subst (λ (x : State S R). Shows k (blames p Idle None x bs) (record { word = last; height = 0; certificate = None; message = m; blame = b }) s2 out out2) es1
      (blame_shows (blame_due p s1) Idle last None s1 s2 bs m b from out out1 out2 em eo1 (ef ∙ ap end_of em) eb es2 eo2
      (ew ∙ ap (λ x. cond (is_some b) Blamed (cond (is_some x) Voted Idle)) em))

  pub on_shows : (note : Option (Note R)) (last : Word) (s s1 s2 : State S R) (bs : List (Block R)) (m b : Option Item) (from : ℕ) (out out1 out2 : List ℕ) →
      m ≡ item_at k 0 (vote_of p s note) → s1 ≡ after_vote p s note → out1 ≡ put_item k 0 (vote_of p s note) out →
      from ≡ end_of m → b ≡ item_at k from (blame_of p s1) → s2 ≡ after_blame p s1 → out2 ≡ put_item k from (blame_of p s1) out1 →
      last ≡ cond (is_some b) Blamed (cond (is_some m) Voted Idle) →
      Shows k (on_tick p note s bs) (record { word = last; height = 0; certificate = None; message = m; blame = b }) s2 out out2
  on_shows None last s s1 s2 bs m b from out out1 out2 em es1 eo1 ef eb es2 eo2 ew =
      vote_shows false last relay s s s1 s2 bs m b from out out1 out2 refl refl em es1 eo1 ef eb es2 eo2 ew
  on_shows (Some note) last s s1 s2 bs m b from out out1 out2 em es1 eo1 ef eb es2 eo2 ew =
      vote_shows (vote_due p s note) last (write (Vote p.own note.block (zero_seal S))) s (with_note (Some (voted_for note)) s) s1 s2 bs m b from out out1 out2 refl refl em es1 eo1 ef eb es2 eo2 ew

  -- a vote leaves room for the blame
  pub vote_ends : (note : Option (Note R)) (s : State S R) (m : Option Item) (from : ℕ) → m ≡ item_at k 0 (vote_of p s note) → from ≡ end_of m → from ≤ 14 + L + S
  vote_ends None s m from em ef = let e : from ≡ 0 = ef ∙ ap end_of em in omega arith
  vote_ends (Some note) s m from em ef =
      elim (vote_due p s note) as (λ v. m ≡ item_at k 0 (cond v (Some (write (Vote p.own note.block (zero_seal S)))) None) → from ≤ 14 + L + S) [
        | true ↦ (λ e. let z : from ≡ 0 + (14 + L + length (zero_seal S)) = ef ∙ ap end_of e in omega (arith, length-replicate {A = ℕ} S 0))
        | false ↦ (λ e. let z : from ≡ 0 = ef ∙ ap end_of e in omega arith)
      ] em

module _ {S : ℕ} {R : Type 0} where
  -- an outcome over other blocks
  abbrev pub over : List (Block R) → Outcome S R → Outcome S R
  over bs o = record { word = o.word; height = o.height; sends = o.sends; state = o.state; blocks = bs }

  cond_over : (d : Bool) (x y x' y' : Outcome S R) (bs : List (Block R)) → x ≡ over bs x' → y ≡ over bs y' → cond d x y ≡ over bs (cond d x' y')
  cond_over true x y x' y' bs ex ey = ex
  cond_over false x y x' y' bs ex ey = ey

  cond-blocks : (d : Bool) (x y : Outcome S R) (bs : List (Block R)) → x.blocks ≡ bs → y.blocks ≡ bs → (cond d x y).blocks ≡ bs
  cond-blocks true x y bs ex ey = ex
  cond-blocks false x y bs ex ey = ey

module _ {S : ℕ} {R : Type 0} (p : Terms) where
  blames-over : (word : Word) (msg : Option (Sending R)) (s : State S R) (bs : List (Block R)) → blames p word msg s bs ≡ over bs (blames p word msg s [])
  blames-over word msg s bs =
      cond_over (blame_due p s)
      (sending Blamed msg (Some (own_blame p s)) (with_blamed true s) bs) (sending word msg None s bs)
      (sending Blamed msg (Some (own_blame p s)) (with_blamed true s) []) (sending word msg None s []) bs refl refl

  on-over : (note : Option (Note R)) (s : State S R) (bs : List (Block R)) → on_tick p note s bs ≡ over bs (on_tick p note s [])
  on-over None s bs = blames-over Idle None s bs
  on-over (Some note) s bs =
      let vote : Option (Sending R) = Some (write (Vote p.own note.block (zero_seal S))) in
      let voted : State S R = with_note (Some (voted_for note)) s in
      cond_over (vote_due p s note)
      (blames p Voted vote voted bs) (blames p Idle None s bs)
      (blames p Voted vote voted []) (blames p Idle None s []) bs (blames-over Voted vote voted bs) (blames-over Idle None s bs)

  -- a seat that is on ticks alike over any blocks
  tick-on : (phase : Phase) (s : State S R) (bs : List (Block R)) → phase ≡ On → ticked p phase s bs ≡ over bs (on_tick p s.round.note s [])
  tick-on phase s bs e = ap (λ x. ticked p x s bs) e ∙ on-over s.round.note s bs

  entered-blocks : (s : State S R) (bs : List (Block R)) → (entered p s bs).blocks ≡ bs
  entered-blocks s bs =
      cond-blocks s.spoiled (sending Blamed None (Some (own_blame p s)) (with_blamed true s) bs) (sending Entered None None s bs) bs refl refl

  ticked-blocks : (phase : Phase) (s : State S R) (bs : List (Block R)) → (ticked p phase s bs).blocks ≡ bs
  ticked-blocks On s bs = ap (λ (o : Outcome S R). o.blocks) (on-over s.round.note s bs)
  ticked-blocks (Leaving since) s bs =
      let view : ℕ = min (s.view + 1) last_view in
      let next : State S R = enter view (turn_after (top_turn view bs)) s in
      cond-blocks (leb (2 * p.delta + 1) (s.now - since)) (entered p next bs) (idle s bs) bs (entered-blocks next bs) refl

  -- a tick leaves the shelf alone
  pub tick-blocks : (s : State S R) (bs : List (Block R)) → (tick_step p s bs).blocks ≡ bs
  tick-blocks s bs = ticked-blocks s.phase (with_now (s.now + 1) s) bs

module _ {L S : ℕ} {R : Type 0} (k : Kind L R) (p : Terms) where
  pub on-ticks : (phase : Phase) (s s1 : State S R) (bs : List (Block R)) (answer : Answer) (out out' : List ℕ) → phase ≡ On →
      Shows k (on_tick p s.round.note s []) answer s1 out out' → Shows k (ticked p phase s bs) answer s1 out out'
  on-ticks phase s s1 bs answer out out' e h =
      subst (λ (o : Outcome S R). Shows k o answer s1 out out') (sym (tick-on p phase s bs e))
      (record { answer_is = h.answer_is; state_is = h.state_is; outbox_is = h.outbox_is })

-- an outbox has room for a vote and a blame
pub room-on : (L S room : ℕ) → L ≤ 64 → S ≤ 64 → 1024 ≤ room → 18 + L + (S + S) ≤ room
room-on L S room hl hs hr = omega arith

pub room-leaving : (S room : ℕ) → S ≤ 64 → 1024 ≤ room → 4 + S ≤ room
room-leaving S room hs hr = omega arith

pub room-blame : (S room : ℕ) → 4 + S ≤ room → 0 + (4 + S) ≤ room
room-blame S room h = omega arith

pub room-vote : (L S room : ℕ) → 18 + L + (S + S) ≤ room → 14 + L + S ≤ room
room-vote L S room h = omega arith
