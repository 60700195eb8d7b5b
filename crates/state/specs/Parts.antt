-- The state of a seat with one part changed.
use Rattle.std.specs.Prelude.{ℕ, Bool, true, false, replicate, Some, None, Option}
use Rattle.blocks.specs.declared.block.Block.{Block}
use Rattle.blocks.specs.declared.rows.SealRow.{SealRow}
use Rattle.state.specs.declared.state.Best.{Best}
use Rattle.state.specs.declared.state.Note.{Note}
use Rattle.state.specs.declared.state.Phase.{Phase}
use Rattle.state.specs.declared.state.Phase.TheVariants.{On, Leaving}
use Rattle.state.specs.declared.state.Round.{Round}
use Rattle.state.specs.declared.state.State.{State}

-- no seal of any seat
abbrev pub no_seals : {S : ℕ} → SealRow S
no_seals = record { by_seat = replicate 15 None }

module _ {S : ℕ} {R : Type 0} where
  -- a turn begins with no note, no votes, nothing offered
  abbrev pub new_round : Round S R
  new_round = record { note = None; votes = no_seals; offered = false }

  -- how a seat begins
  abbrev pub new_state : State S R
  new_state = record {
    now = 0;
    phase = On;
    view = 0;
    turn = 0;
    lock = None;
    best = None;
    round = new_round;
    spoiled = false;
    blamed = false;
    blames = no_seals;
    progress = 0;
    committed = None;
    entered = 0;
    slip = false;
  }

  abbrev pub with_round : Round S R → State S R → State S R
  with_round round s = record {
    now = s.now;
    phase = s.phase;
    view = s.view;
    turn = s.turn;
    lock = s.lock;
    best = s.best;
    round = round;
    spoiled = s.spoiled;
    blamed = s.blamed;
    blames = s.blames;
    progress = s.progress;
    committed = s.committed;
    entered = s.entered;
    slip = s.slip;
  }

  abbrev pub with_note : Option (Note R) → State S R → State S R
  with_note note s = record {
    now = s.now;
    phase = s.phase;
    view = s.view;
    turn = s.turn;
    lock = s.lock;
    best = s.best;
    round = record { note = note; votes = s.round.votes; offered = s.round.offered };
    spoiled = s.spoiled;
    blamed = s.blamed;
    blames = s.blames;
    progress = s.progress;
    committed = s.committed;
    entered = s.entered;
    slip = s.slip;
  }

  abbrev pub with_votes : SealRow S → State S R → State S R
  with_votes votes s = record {
    now = s.now;
    phase = s.phase;
    view = s.view;
    turn = s.turn;
    lock = s.lock;
    best = s.best;
    round = record { note = s.round.note; votes = votes; offered = s.round.offered };
    spoiled = s.spoiled;
    blamed = s.blamed;
    blames = s.blames;
    progress = s.progress;
    committed = s.committed;
    entered = s.entered;
    slip = s.slip;
  }

  abbrev pub with_offered : Bool → State S R → State S R
  with_offered offered s = record {
    now = s.now;
    phase = s.phase;
    view = s.view;
    turn = s.turn;
    lock = s.lock;
    best = s.best;
    round = record { note = s.round.note; votes = s.round.votes; offered = offered };
    spoiled = s.spoiled;
    blamed = s.blamed;
    blames = s.blames;
    progress = s.progress;
    committed = s.committed;
    entered = s.entered;
    slip = s.slip;
  }

  abbrev pub with_blames : SealRow S → State S R → State S R
  with_blames blames s = record {
    now = s.now;
    phase = s.phase;
    view = s.view;
    turn = s.turn;
    lock = s.lock;
    best = s.best;
    round = s.round;
    spoiled = s.spoiled;
    blamed = s.blamed;
    blames = blames;
    progress = s.progress;
    committed = s.committed;
    entered = s.entered;
    slip = s.slip;
  }

  abbrev pub with_best : Option (Best R) → State S R → State S R
  with_best best s = record {
    now = s.now;
    phase = s.phase;
    view = s.view;
    turn = s.turn;
    lock = s.lock;
    best = best;
    round = s.round;
    spoiled = s.spoiled;
    blamed = s.blamed;
    blames = s.blames;
    progress = s.progress;
    committed = s.committed;
    entered = s.entered;
    slip = s.slip;
  }

  abbrev pub with_spoiled : Bool → State S R → State S R
  with_spoiled spoiled s = record {
    now = s.now;
    phase = s.phase;
    view = s.view;
    turn = s.turn;
    lock = s.lock;
    best = s.best;
    round = s.round;
    spoiled = spoiled;
    blamed = s.blamed;
    blames = s.blames;
    progress = s.progress;
    committed = s.committed;
    entered = s.entered;
    slip = s.slip;
  }

  abbrev pub with_blamed : Bool → State S R → State S R
  with_blamed blamed s = record {
    now = s.now;
    phase = s.phase;
    view = s.view;
    turn = s.turn;
    lock = s.lock;
    best = s.best;
    round = s.round;
    spoiled = s.spoiled;
    blamed = blamed;
    blames = s.blames;
    progress = s.progress;
    committed = s.committed;
    entered = s.entered;
    slip = s.slip;
  }

  abbrev pub with_now : ℕ → State S R → State S R
  with_now now s = record {
    now = now;
    phase = s.phase;
    view = s.view;
    turn = s.turn;
    lock = s.lock;
    best = s.best;
    round = s.round;
    spoiled = s.spoiled;
    blamed = s.blamed;
    blames = s.blames;
    progress = s.progress;
    committed = s.committed;
    entered = s.entered;
    slip = s.slip;
  }

  abbrev pub with_slip : Bool → State S R → State S R
  with_slip slip s = record {
    now = s.now;
    phase = s.phase;
    view = s.view;
    turn = s.turn;
    lock = s.lock;
    best = s.best;
    round = s.round;
    spoiled = s.spoiled;
    blamed = s.blamed;
    blames = s.blames;
    progress = s.progress;
    committed = s.committed;
    entered = s.entered;
    slip = slip;
  }

  -- the next turn of the view begins
  abbrev pub turn_rises : ℕ → State S R → State S R
  turn_rises turn s = record {
    now = s.now;
    phase = s.phase;
    view = s.view;
    turn = turn;
    lock = s.lock;
    best = s.best;
    round = new_round;
    spoiled = s.spoiled;
    blamed = s.blamed;
    blames = s.blames;
    progress = s.progress;
    committed = s.committed;
    entered = s.entered;
    slip = s.slip;
  }

  -- a commit is progress
  abbrev pub with_committed : Block R → State S R → State S R
  with_committed b s = record {
    now = s.now;
    phase = s.phase;
    view = s.view;
    turn = s.turn;
    lock = s.lock;
    best = s.best;
    round = s.round;
    spoiled = s.spoiled;
    blamed = s.blamed;
    blames = s.blames;
    progress = s.now;
    committed = Some b;
    entered = s.entered;
    slip = s.slip;
  }

  -- leaving a view: whatever belongs to a view is cleared
  abbrev pub leave : ℕ → State S R → State S R
  leave view s = record {
    now = s.now;
    phase = Leaving s.now;
    view = view;
    turn = s.turn;
    lock = s.lock;
    best = s.best;
    round = new_round;
    spoiled = false;
    blamed = false;
    blames = no_seals;
    progress = s.progress;
    committed = s.committed;
    entered = s.entered;
    slip = s.slip;
  }

-- whether a seat is on
abbrev pub is_on : Phase → Bool
is_on On = true
is_on (Leaving since) = false
