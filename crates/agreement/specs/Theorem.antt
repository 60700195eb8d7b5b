-- Agreement, over every run.
use Rattle.std.specs.Prelude.{◌≡◌, ℕ, List, Ok, Option}
use Rattle.content.specs.Kinds.{Kind}
use Rattle.content.specs.declared.refusal.Refusal.TheVariants.{Orphan, Rival, Fork}
use Rattle.blocks.specs.declared.block.Block.{Block}
use Rattle.wire.specs.Reading.{read_parts}
use Rattle.wire.specs.declared.message.Certificate.{Certificate}
use Rattle.wire.specs.declared.message.Parts.TheVariants.{Proposal}
use Rattle.state.specs.declared.answer.Word.TheVariants.{Clash}
use Rattle.agreement.specs.Committed.{Committed}
use Rattle.agreement.specs.History.{Did, Event, History, Once, Refused, inbox_of}
use Rattle.agreement.specs.Run.{Run}
use Rattle.agreement.specs.Setting.{Lawful, Setting, Sound}

module _ {L : ℕ} {R : Type 0} (S : ℕ) (k : Kind L R) (w : Setting) where
  -- a seat answered clash to a proposal for a view whose leader is sound
  abbrev pub ClashUnderSoundLeader : Event → History → Type 0
  ClashUnderSoundLeader e h =
      (b : Block R) × ((seal : List ℕ) × ((parent : Option (Certificate R (List ℕ))) ×
      ((read_parts k S w.n (inbox_of e.what) ≡ Ok (Proposal b seal parent)) ×
      (Sound w (w.leader b.rank.view) × Did S k w (λ o. o.word ≡ Clash) e h))))

  -- What holds of every run: sound seats commit one block a height; no sound leader is taken for a cheat; no certificate
  -- comes without its parent, beside a rival, or off the committed blocks.
  pub record Agrees (h : History) : Type 0 where
    pub one_block_a_height : (i j : ℕ) (b c : Block R) → Sound w i → Sound w j → Committed S k w h i b → Committed S k w h j c →
        b.height ≡ c.height → b ≡ c
    pub no_clash_under_a_sound_leader : Once ClashUnderSoundLeader h → ⊥
    pub no_orphan : Once (Refused S k w Orphan) h → ⊥
    pub no_rival : Once (Refused S k w Rival) h → ⊥
    pub no_fork : Once (Refused S k w Fork) h → ⊥

-- The theorem: for every kind of content, every seal length, every setting, every history that is a run.
abbrev pub Agreement : {L : ℕ} {R : Type 0} → (S : ℕ) → Kind L R → Type 0
Agreement S k = (w : Setting) → Lawful w → (h : History) → Run S k w h → Agrees S k w h
