-- One tick of the clock.
use Rattle.std.specs.Prelude.{ℕ, ◌+◌, ◌-◌, ◌*◌, min, Bool, true, false, cond, not, ◌&&◌, List, Some, None, Option, ◌==◌, nat_le}
use Rattle.blocks.specs.Ranks.{Place}
use Rattle.blocks.specs.declared.block.Block.{Block}
use Rattle.wire.specs.declared.message.Parts.TheVariants.{Vote}
use Rattle.shelf.specs.Blocks.{top_turn}
use Rattle.state.specs.HandIn.{idle, last_view, own_blame}
use Rattle.state.specs.Parts.{with_blamed, with_note, with_now}
use Rattle.state.specs.Sends.{Outcome, Sending, write, zero_seal}
use Rattle.state.specs.declared.answer.Word.{Word}
use Rattle.state.specs.declared.answer.Word.TheVariants.{Idle, Entered, Voted, Blamed}
use Rattle.state.specs.declared.state.Best.{Best}
use Rattle.state.specs.declared.state.Note.{Note}
use Rattle.state.specs.declared.state.Phase.{Phase}
use Rattle.state.specs.declared.state.Phase.TheVariants.{On, Leaving}
use Rattle.state.specs.declared.state.Round.{Round}
use Rattle.state.specs.declared.state.State.{State}
use Rattle.state.specs.declared.state.Terms.{Terms}

-- where best stands
abbrev pub place_of : {R : Type 0} → Option (Best R) → Place
place_of None = None
place_of (Some best) = Some best.block.rank

-- one above the highest turn, or 0
abbrev pub turn_after : Option ℕ → ℕ
turn_after None = 0
turn_after (Some t) = t + 1

-- a note accepted D + 1 ticks ago or more is ripe
abbrev pub ripe : Terms → ℕ → Option ℕ → Bool
ripe p now None = false
ripe p now (Some a) = nat_le (p.delta + 1) (now - a)

abbrev pub voted_for : {R : Type 0} → Note R → Note R
voted_for note = record { block = note.block; accepted = note.accepted; voted = true }

module _ {S : ℕ} {R : Type 0} where
  -- only at turn 0 the note of a seat that was leaving stays
  abbrev pub round_at : ℕ → Round S R → Round S R
  round_at turn r = cond (turn == 0) r (record { note = None; votes = r.votes; offered = r.offered })

  -- a view is entered: the lock becomes best, the turn is one above what is certified in the view
  abbrev pub enter : ℕ → ℕ → State S R → State S R
  enter view turn s = record {
    now = s.now;
    phase = On;
    view = view;
    turn = turn;
    lock = place_of s.best;
    best = s.best;
    round = round_at turn s.round;
    spoiled = s.spoiled;
    blamed = s.blamed;
    blames = s.blames;
    progress = s.now;
    committed = s.committed;
    entered = s.now;
    slip = s.slip;
  }

  abbrev pub sending : Word → Option (Sending R) → Option (Sending R) → State S R → List (Block R) → Outcome S R
  sending word message blame s bs = record {
    word = word;
    height = 0;
    sends = record { certificate = None; message = message; blame = blame };
    state = s;
    blocks = bs;
  }

module _ {S : ℕ} {R : Type 0} (p : Terms) where
  -- a spoiled seat blames the view that it entered
  abbrev pub entered_at : State S R → List (Block R) → (spoiled : Bool) → Outcome S R
  entered_at s bs spoiled =
      cond spoiled
      (sending Blamed None (Some (own_blame p s)) (with_blamed true s) bs)
      (sending Entered None None s bs)

  abbrev pub entered : State S R → List (Block R) → Outcome S R
  entered s bs = entered_at s bs s.spoiled

  -- after 2D + 1 ticks of leaving the next view is entered
  abbrev pub leaving_tick : ℕ → State S R → List (Block R) → Outcome S R
  leaving_tick since s bs =
      let view : ℕ = min (s.view + 1) last_view in
      cond (nat_le (2 * p.delta + 1) (s.now - since))
      (entered (enter view (turn_after (top_turn view bs)) s) bs)
      (idle s bs)

  -- a vote is due for a ripe note, once, in a seat that is not spoiled
  abbrev pub vote_due : State S R → Note R → Bool
  vote_due s note = ripe p s.now note.accepted && (not note.voted && not s.spoiled)

  -- patience is over
  abbrev pub blame_due : State S R → Bool
  blame_due s = not s.blamed && nat_le p.patience (s.now - s.progress)

  -- the blame of a seat whose patience is over, and the seat after it
  abbrev pub blame_of : State S R → Option (Sending R)
  blame_of s = cond (blame_due s) (Some (own_blame p s)) None

  abbrev pub after_blame : State S R → State S R
  after_blame s = cond (blame_due s) (with_blamed true s) s

  -- the vote that is due, and the seat after it
  abbrev pub vote_of : State S R → Option (Note R) → Option (Sending R)
  vote_of s None = None
  vote_of s (Some note) = cond (vote_due s note) (Some (write (Vote p.own note.block (zero_seal S)))) None

  abbrev pub after_vote : State S R → Option (Note R) → State S R
  after_vote s None = s
  after_vote s (Some note) = cond (vote_due s note) (with_note (Some (voted_for note)) s) s

  -- the blame comes after the vote, if any
  abbrev pub blames : Word → Option (Sending R) → State S R → List (Block R) → Outcome S R
  blames word message s bs =
      cond (blame_due s)
      (sending Blamed message (Some (own_blame p s)) (with_blamed true s) bs)
      (sending word message None s bs)

  abbrev pub on_tick : Option (Note R) → State S R → List (Block R) → Outcome S R
  on_tick None s bs = blames Idle None s bs
  on_tick (Some note) s bs =
      cond (vote_due s note)
      (blames Voted (Some (write (Vote p.own note.block (zero_seal S)))) (with_note (Some (voted_for note)) s) bs)
      (blames Idle None s bs)

  abbrev pub ticked : Phase → State S R → List (Block R) → Outcome S R
  ticked On s bs = on_tick s.round.note s bs
  ticked (Leaving since) s bs = leaving_tick since s bs

  abbrev pub tick_step : State S R → List (Block R) → Outcome S R
  tick_step s bs = ticked s.phase (with_now (s.now + 1) s) bs
