-- Entering a view, as its code writes it.
use Rattle.std.proofs.Common.{◌≡◌, ℕ, true, false, cond, eqb, None, Option, refl}
use Rattle.blocks.specs.Ranks.{Place}
use Rattle.state.specs.Tick.{enter, place_of, round_at}
use Rattle.state.specs.declared.state.Note.{Note}
use Rattle.state.specs.declared.state.Phase.TheVariants.{On}
use Rattle.state.specs.declared.state.Round.{Round}
use Rattle.state.specs.declared.state.State.{State}

module _ {S : ℕ} {R : Type 0} where
  -- the note of a round that is entered, by itself
  pub round_at_lem : (turn : ℕ) (r : Round S R) →
      ◌≡◌ {A = Round S R} (record { note = cond (eqb turn 0) r.note None; votes = r.votes; offered = r.offered }) (round_at turn r)
  round_at_lem turn r =
      elim (eqb turn 0) as (λ b. ◌≡◌ {A = Round S R} (record { note = cond b r.note None; votes = r.votes; offered = r.offered }) (cond b r (record { note = None; votes = r.votes; offered = r.offered })))
      [ true ↦ refl | false ↦ refl ]

  pub enter-is : (view turn : ℕ) (s : State S R) (kept : Option (Note R)) (lock : Place) →
      kept ≡ cond (eqb turn 0) s.round.note None → lock ≡ place_of s.best →
      ◌≡◌ {A = State S R} (record {
        now = s.now;
        phase = On;
        view = view;
        turn = turn;
        lock = lock;
        best = s.best;
        round = record { note = kept; votes = s.round.votes; offered = s.round.offered };
        spoiled = s.spoiled;
        blamed = s.blamed;
        blames = s.blames;
        progress = s.now;
        committed = s.committed;
        entered = s.now;
        slip = s.slip;
      })
      (enter view turn s)
  enter-is view turn s kept lock en el = cc (round_at_lem turn s.round)
