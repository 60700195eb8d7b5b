-- Proposals, as their code handles them.
use Rattle.std.proofs.Common.{◌≡◌, ℕ, Bool, true, false, cond, not, ◌&&◌, List, Some, None, Ok, Err, Option, Result, sym, refl, ap, ◌∙◌, add-zero, zero-add, arith}
use Rattle.std.proofs.lemmas.Bool.Decides.{nat_tests}
use Rattle.content.specs.Kinds.{Kind}
use Rattle.content.specs.declared.refusal.Refusal.{Refusal}
use Rattle.blocks.specs.Ranks.{same_block}
use Rattle.blocks.specs.declared.block.Block.{Block}
use Rattle.wire.specs.Writing.{message_size}
use Rattle.wire.specs.declared.message.Certificate.{Certificate}
use Rattle.wire.specs.declared.message.Parts.TheVariants.{Certified}
use Rattle.state.specs.Does.{Does}
use Rattle.state.specs.HandIn.{accepted_at, accepts, adds, at_note, carried, clashes, own_blame, proposal, proposed, slot_open, taken}
use Rattle.state.specs.Parts.{is_on, with_blamed, with_note, with_spoiled}
use Rattle.state.specs.Reactions.{accepting, applied, blames_by, clashing, fresh, meets, note_or, parent_taken, reacted, reaction, responded}
use Rattle.state.specs.Sends.{Outcome, Sending, answer_of, end_of, item_at, outbox_after, put_item, relay, size_of, write}
use Rattle.state.specs.TakeIn.{judge_in}
use Rattle.state.specs.declared.taking.Verdict.{Verdict}
use Rattle.state.specs.declared.taking.Verdict.TheVariants.{Known, New}
use Rattle.state.specs.declared.answer.Answer.{Answer}
use Rattle.state.specs.declared.answer.Word.TheVariants.{Accepted as SaysAccepted, Clash as SaysClash, Noted as SaysNoted}
use Rattle.state.specs.declared.notes.Reaction.{Reaction}
use Rattle.state.specs.declared.notes.Reaction.TheVariants.{Nothing, Noted, Accepted, Clash, ClashAndBlame}
use Rattle.state.specs.declared.state.Note.{Note}
use Rattle.state.specs.declared.state.State.{State}
use Rattle.state.specs.declared.state.Terms.{Terms}

pub first_way : {X : Type 0} (b : Bool) (x y : X) → true ≡ b → x ≡ cond b x y
first_way b x y h = grind (arith, nat_tests)

pub other_way : {X : Type 0} (b : Bool) (x y : X) → false ≡ b → y ≡ cond b x y
other_way b x y h = grind (arith, nat_tests)

module _ {L S : ℕ} {R : Type 0} (k : Kind L R) (s : State S R) (b : Block R) where
  -- another block than the note clashes
  pub meets-clash : (note : Note R) → false ≡ same_block k note.block b → clashing s ≡ meets k s b (Some note)
  meets-clash note h = other_way (same_block k note.block b) (cond (accepting s note) Accepted Nothing) (clashing s) h

  pub record Reacts (x : Reaction) (t : State S R) : Type 0 where
    pub reaction_is : x ≡ reaction k s b
    pub state_is : t ≡ reacted s (note_or b s.round.note) (reaction k s b)

  -- at an open slot its note decides
  pub reacts_at : (n : Option (Note R)) (x : Reaction) (t : State S R) → true ≡ slot_open s b → s.round.note ≡ n →
      x ≡ meets k s b n → t ≡ reacted s (note_or b n) x → Reacts x t
  reacts_at n x t opened en ex et =
      let e : x ≡ reaction k s b =
      ex ∙ (ap (λ m. meets k s b m) (sym en) ∙ first_way (slot_open s b) (meets k s b s.round.note) Nothing opened) in
      record {
        reaction_is = e;
        state_is = et ∙ (ap (λ m. reacted s (note_or b m) x) (sym en) ∙ ap (λ y. reacted s (note_or b s.round.note) y) e);
      }

module _ {L S : ℕ} {R : Type 0} (k : Kind L R) (p : Terms) (b : Block R) where
  -- nothing more happens to an outcome that sends no message and no blame
  same_outcome : (o : Outcome S R) (note : Note R) → o.sends.message ≡ None → o.sends.blame ≡ None → o.state.round.note ≡ Some note →
      adds o o.word None None (with_note (Some note) o.state) ≡ o
  same_outcome o note em eb en =
      ap (λ m. adds o o.word m None (with_note (Some note) o.state)) (sym em) ∙
      (ap (λ m. adds o o.word o.sends.message m (with_note (Some note) o.state)) (sym eb) ∙
      ap (λ n. adds o o.word o.sends.message o.sends.blame (with_note n o.state)) (sym en))

  none_met : (o : Outcome S R) (v : Bool) →
      cond v (adds o SaysAccepted (Some relay) None (with_note (Some (accepted_at o.state.now (fresh b))) o.state))
      (adds o SaysNoted None None (with_note (Some (fresh b)) o.state))
      ≡ applied p o (fresh b) (cond v Accepted Noted)
  none_met o true = refl
  none_met o false = refl

  same_met : (o : Outcome S R) (note : Note R) → o.sends.message ≡ None → o.sends.blame ≡ None → o.state.round.note ≡ Some note → (v : Bool) →
      cond v (adds o SaysAccepted (Some relay) None (with_note (Some (accepted_at o.state.now note)) o.state))
      (adds o o.word None None (with_note (Some note) o.state))
      ≡ applied p o note (cond v Accepted Nothing)
  same_met o note em eb en true = refl
  same_met o note em eb en false = same_outcome o note em eb en

  clash_met : (o : Outcome S R) (note : Note R) (v : Bool) →
      cond v (adds o SaysClash (Some relay) (Some (own_blame p o.state)) (with_blamed true (with_spoiled true o.state)))
      (adds o SaysClash (Some relay) None (with_spoiled true o.state))
      ≡ applied p o note (cond v ClashAndBlame Clash)
  clash_met o note true = refl
  clash_met o note false = refl

  some_met : (o : Outcome S R) (note : Note R) (v : Bool) (x y : Outcome S R) (f g : Reaction) → x ≡ applied p o note f → y ≡ applied p o note g →
      cond v x y ≡ applied p o note (cond v f g)
  some_met o note true x y f g ex ey = ex
  some_met o note false x y f g ex ey = ey

  note_met : (o : Outcome S R) → o.sends.message ≡ None → o.sends.blame ≡ None → (n : Option (Note R)) → o.state.round.note ≡ n →
      at_note k p o b n ≡ applied p o (note_or b n) (meets k o.state b n)
  note_met o em eb None en = none_met o (accepting o.state (fresh b))
  note_met o em eb (Some note) en =
      some_met o note (same_block k note.block b) (accepts o o.word note) (clashes p o)
      (cond (accepting o.state note) Accepted Nothing) (clashing o.state)
      (same_met o note em eb en (accepting o.state note))
      (clash_met o note (is_on o.state.phase && not o.state.blamed))

  -- what a proposal does is what its reaction says
  pub proposed-is : (o : Outcome S R) → o.sends.message ≡ None → o.sends.blame ≡ None →
      proposed k p b o ≡ applied p o (note_or b o.state.round.note) (reaction k o.state b)
  proposed-is o em eb =
      some_met o (note_or b o.state.round.note) (slot_open o.state b) (at_note k p o b o.state.round.note) o
      (meets k o.state b o.state.round.note) Nothing
      (note_met o em eb o.state.round.note refl) refl

-- a refusal of the parent's certificate refuses the proposal
module _ {L S : ℕ} {R : Type 0} (k : Kind L R) (f : Outcome S R → Outcome S R) {s : State S R} {bs : List (Block R)} {out : List ℕ} {e : Refusal} {s' : State S R} {bs' : List (Block R)} {out' : List ℕ} where
  pub refused_too : (x : Result (Outcome S R) Refusal) → Does k x s bs out (Err e) s' bs' out' → Does k (carried f x) s bs out (Err e) s' bs' out'
  refused_too (Ok o) h = absurd (let z : ◌≡◌ {A = ℕ} 0 1 = cc h.answer in omega arith)
  refused_too (Err r) h = record { answer = h.answer; state = h.state; blocks = h.blocks; outbox = h.outbox }

-- outcomes that send no message and no blame
abbrev pub Quiet : {S : ℕ} {R : Type 0} → Result (Outcome S R) Refusal → Type 0
Quiet (Ok o) = (o.sends.message ≡ None) × (o.sends.blame ≡ None)
Quiet (Err e) = Unit {0}

module _ {L S : ℕ} {R : Type 0} (k : Kind L R) (s : State S R) (bs : List (Block R)) (cells : ℕ) where
  quiet_take : (c : Certificate R (List ℕ)) (sending : Sending R) (v : Result Verdict Refusal) → Quiet (carried (taken s bs c sending) v)
  quiet_take c sending (Ok Known) = (refl, refl)
  quiet_take c sending (Ok New) = (refl, refl)
  quiet_take c sending (Err e) = tt

  pub quiet_parent : (parent : Option (Certificate R (List ℕ))) → Quiet (parent_taken k s bs cells parent)
  quiet_parent None = (refl, refl)
  quiet_parent (Some c) = quiet_take c (write (Certified c)) (judge_in k s bs cells c.block)

  pub proposal-is : (p : Terms) (b : Block R) (parent : Option (Certificate R (List ℕ))) →
      carried (proposed k p b) (parent_taken k s bs cells parent) ≡ proposal k p s bs cells b parent
  proposal-is p b None = refl
  proposal-is p b (Some c) = refl

-- a written certificate ends where the next message begins
end_is : {L : ℕ} {R : Type 0} (k : Kind L R) (x : Option (Sending R)) → end_of (item_at k 0 x) ≡ size_of k x
end_is k None = refl
end_is k (Some relay) = refl
end_is k (Some (write m)) = zero-add (message_size _ m)

module _ {L S : ℕ} {R : Type 0} (k : Kind L R) (p : Terms) (o : Outcome S R) (note : Note R) where
  -- the answer to the proposal, from the one to the parent's certificate
  answer-applied : o.sends.message ≡ None → o.sends.blame ≡ None → (x : Reaction) →
      responded k (answer_of k o) (blames_by S p o.state.view x) x ≡ answer_of k (applied p o note x)
  answer-applied em eb Nothing = refl
  answer-applied em eb Noted = rw (em, eb) refl
  answer-applied em eb Accepted = rw eb refl
  answer-applied em eb Clash = rw eb refl
  answer-applied em eb ClashAndBlame = rw (end_is k o.sends.certificate, add-zero) refl

  outbox-applied : o.sends.message ≡ None → o.sends.blame ≡ None → (out : List ℕ) (x : Reaction) →
      put_item k (end_of (answer_of k o).certificate) (blames_by S p o.state.view x) (outbox_after k o.sends out) ≡ outbox_after k (applied p o note x).sends out
  outbox-applied em eb out Nothing = refl
  outbox-applied em eb out Noted = rw (em, eb) refl
  outbox-applied em eb out Accepted = rw (em, eb) refl
  outbox-applied em eb out Clash = rw (em, eb) refl
  outbox-applied em eb out ClashAndBlame = rw (em, eb, end_is k o.sends.certificate, add-zero) refl

  state-applied : (x : Reaction) → reacted o.state note x ≡ (applied p o note x).state
  state-applied Nothing = refl
  state-applied Noted = refl
  state-applied Accepted = refl
  state-applied Clash = refl
  state-applied ClashAndBlame = refl

  blocks-applied : (x : Reaction) → o.blocks ≡ (applied p o note x).blocks
  blocks-applied Nothing = refl
  blocks-applied Noted = refl
  blocks-applied Accepted = refl
  blocks-applied Clash = refl
  blocks-applied ClashAndBlame = refl

ok_same : {X E : Type 0} {x y : X} → ◌≡◌ {A = Result X E} (Ok x) (Ok y) → x ≡ y
ok_same e = cc

module _ {L S : ℕ} {R : Type 0} (k : Kind L R) (p : Terms) (b : Block R) {s s₁ s₂ : State S R} {bs bs₁ : List (Block R)} {out out₁ out₂ : List ℕ} {a a₂ : Answer} (x : Reaction) where
  -- the call does what the model says once the parent's certificate did and the seat reacted
  pub proposal_does : (r : Result (Outcome S R) Refusal) → Quiet r → Does k r s bs out (Ok a) s₁ bs₁ out₁ →
      x ≡ reaction k s₁ b → s₂ ≡ reacted s₁ (note_or b s₁.round.note) (reaction k s₁ b) →
      a₂ ≡ responded k a (blames_by S p s₁.view x) x → out₂ ≡ put_item k (end_of a.certificate) (blames_by S p s₁.view x) out₁ →
      Does k (carried (proposed k p b) r) s bs out (Ok a₂) s₂ bs₁ out₂
  proposal_does (Err e) q d ex es ea eo = absurd (let z : ◌≡◌ {A = ℕ} 0 1 = cc d.answer in omega arith)
  proposal_does (Ok o) q d ex es ea eo =
      let nt : Note R = note_or b o.state.round.note in
      let rx : Reaction = reaction k o.state b in
      let ha : a ≡ answer_of k o = ok_same d.answer in
      let hs : s₁ ≡ o.state = d.state in
      let hx : x ≡ rx = ex ∙ ap (λ t. reaction k t b) hs in
      let hp : applied p o nt rx ≡ proposed k p b o = sym (proposed-is k p b o q.0 q.1) in
      record {
        answer = ap (λ y. Ok y)
            (ea ∙ (ap (λ y. responded k y (blames_by S p s₁.view x) x) ha ∙
            (ap (λ t. responded k (answer_of k o) (blames_by S p t.view x) x) hs ∙
            (ap (λ y. responded k (answer_of k o) (blames_by S p o.state.view y) y) hx ∙
            (answer-applied k p o nt q.0 q.1 rx ∙ ap (λ u. answer_of k u) hp)))));
        state = es ∙ (ap (λ t. reacted t (note_or b t.round.note) (reaction k t b)) hs ∙ (state-applied k p o nt rx ∙ ap (λ u. u.state) hp));
        blocks = d.blocks ∙ (blocks-applied k p o nt rx ∙ ap (λ u. u.blocks) hp);
        outbox =
            eo ∙ (ap (λ y. put_item k (end_of y.certificate) (blames_by S p s₁.view x) out₁) ha ∙
            (ap (λ t. put_item k (end_of (answer_of k o).certificate) (blames_by S p t.view x) out₁) hs ∙
            (ap (λ y. put_item k (end_of (answer_of k o).certificate) (blames_by S p o.state.view y) out₁) hx ∙
            (ap (λ z. put_item k (end_of (answer_of k o).certificate) (blames_by S p o.state.view rx) z) d.outbox ∙
            (outbox-applied k p o nt q.0 q.1 out rx ∙ ap (λ u. outbox_after k u.sends out) hp)))));
      }
