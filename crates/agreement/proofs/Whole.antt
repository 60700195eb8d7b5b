-- The facts about one seat, together, and the theorem from them.
use Rattle.std.proofs.Common.{ℕ}
use Rattle.content.specs.Kinds.{Kind}
use Rattle.agreement.specs.Laws.{LawsOfSeats}
use Rattle.agreement.specs.Setting.{Lawful, Setting}
use Rattle.agreement.specs.Theorem.{Agreement}
use Rattle.agreement.proofs.Acceptances.{ballot, primed_votes}
use Rattle.agreement.proofs.Agree.{agrees, clean_run}
use Rattle.agreement.proofs.Ballots.{shelved-voted}
use Rattle.agreement.proofs.Carried.{certificate-carried, notice-carried}
use Rattle.agreement.proofs.Clash.{no_clash_under_a_sound_leader}
use Rattle.agreement.proofs.Commits.{commit-on, committed-was}
use Rattle.agreement.proofs.Entries.{entry}
use Rattle.agreement.proofs.Facts.{SeatFacts}
use Rattle.agreement.proofs.OneBlock.{one-block-a-rank}
use Rattle.agreement.proofs.Primed.{primed-stays}
use Rattle.agreement.proofs.Proposals.{proposal-carried}
use Rattle.agreement.proofs.Refusals.{fork_because, orphan_because, rival_because}
use Rattle.agreement.proofs.Shelved.{one-a-rank, reads-ancestor, shelf-closed, shelf_grows, shelf-lawful, shelved-sent, turns-below, turns-there}
use Rattle.agreement.proofs.Time.{clock_moves, clock_rises, leaving-began, leaving-short, stage_rises}

-- what one seat does in a run
pub seat_facts : {L : ℕ} {R : Type 0} (S : ℕ) (k : Kind L R) (w : Setting) → Lawful w → SeatFacts S k w
seat_facts S k w law = record {
  stage_rises = stage_rises S k w law;
  clock_rises = clock_rises S k w;
  clock_moves = clock_moves S k w;
  leaving-short = leaving-short S k w law;
  leaving-began = leaving-began S k w law;
  entry = entry S k w law;
  shelf_grows = shelf_grows S k w;
  shelf-lawful = shelf-lawful S k w law;
  shelf-closed = shelf-closed S k w law;
  one-a-rank = one-a-rank S k w law;
  shelved-sent = shelved-sent S k w law;
  shelved-voted = shelved-voted S k w law;
  turns-there = turns-there S k w law;
  turns-below = turns-below S k w law;
  notice-carried = notice-carried S k w law;
  certificate-carried = certificate-carried S k w law;
  proposal-carried = proposal-carried S k w law;
  ballot = ballot S k w law;
  primed-stays = primed-stays S k w law;
  primed_votes = primed_votes S k w law;
  commit-on = commit-on S k w law;
  committed-was = committed-was S k w law;
  orphan_because = orphan_because S k w law;
  rival_because = rival_because S k w law;
  fork_because = fork_because S k w law;
  reads-ancestor = reads-ancestor S k w law;
}

-- agreement, for every kind of content, every seal length, every setting, every run
pub agreement : {L : ℕ} {R : Type 0} (S : ℕ) (k : Kind L R) → Agreement S k
agreement S k w law h run = agrees S k w law (seat_facts S k w law) (no_clash_under_a_sound_leader S k w law) h run

-- the laws of sound seats, likewise
pub laws_of_seats : {L : ℕ} {R : Type 0} (S : ℕ) (k : Kind L R) → LawsOfSeats S k
laws_of_seats S k w law h run =
    let f = seat_facts S k w law in
    record {
      stage_never_falls = λ i p sound earlier. f.stage_rises i p h sound run earlier;
      one_vote_a_rank = λ b c. one-block-a-rank S k w law f b c h run (clean_run S k w law f h run);
      shelf_has_parents = λ i b sound. f.shelf-closed i h b sound run;
      shelf_has_one_a_rank = λ i b c sound. f.one-a-rank i h b c sound run;
      shelved_is_sent = λ i b sound. f.shelved-sent i h b sound run;
    }
