-- Seals of sound seats stand on votes that were cast: a vote kept for the note, a certificate, a block on the shelf.
use Rattle.std.proofs.Common.{◌≡◌, ℕ, ◌<◌, ◌≤◌, true, ltb, ◌⊎◌, List, [], ◌∷◌, Some, None, Ok, Option, ap, ◌∙◌, subst, inl, inr, arith}
use Rattle.std.proofs.lemmas.Bool.{and_parts, eqb-true}
use Rattle.content.specs.Kinds.{Kind}
use Rattle.blocks.specs.Masks.{faults, lawful_mask, ones, quorum}
use Rattle.blocks.specs.declared.block.Block.{Block}
use Rattle.wire.specs.Asked.{Question, body_asked, judge, row_asked}
use Rattle.wire.specs.Lawful.{LawfulBlock, LawfulBody}
use Rattle.wire.specs.Layout.{blame_statement, proposal_statement, vote_statement}
use Rattle.wire.specs.declared.message.Certificate.{Certificate}
use Rattle.wire.specs.declared.message.Parts.TheVariants.{Proposal, Vote, Blame, Certified, Notice}
use Rattle.state.specs.Offer.{offered_block}
use Rattle.state.specs.Sends.{Outcome, Sending, relay, write, zero_seal}
use Rattle.agreement.specs.History.{Event, History, Own, Said, result}
use Rattle.agreement.specs.Run.{Each, HonestSeal, Moment, Run}
use Rattle.agreement.specs.Setting.{Lawful, Setting, Sound, unsound}
use Rattle.agreement.proofs.Along.{Handed}
use Rattle.agreement.specs.Laws.{Voted, VotesFor, state}
use Rattle.agreement.proofs.Moments.{was-here, was-more}
use Rattle.agreement.proofs.Notes.{block_of, note-fine}
use Rattle.agreement.proofs.Quorum.{among-each, asked-sound, judged, judged-first, unsound_from_lem, unsound_from}
use Rattle.agreement.proofs.Sent.{BlameOnly, OfferMade, Passing, VoteCast, sent_so}
use Rattle.agreement.proofs.Statements.{blame-no-vote, proposal-no-vote, vote-tells}

module _ {L : ℕ} {R : Type 0} (S : ℕ) (k : Kind L R) (w : Setting) where
  pub passing-owns : (st : List ℕ) (x : Option (Sending R)) → Passing x → Own S k w st x → ⊥
  passing-owns st None q own = own
  passing-owns st (Some relay) q own = own
  passing-owns st (Some (write (Proposal b seal parent))) q own = q
  passing-owns st (Some (write (Vote i b seal))) q own = q
  passing-owns st (Some (write (Blame i view seal))) q own = q
  passing-owns st (Some (write (Certified c))) q own = own
  passing-owns st (Some (write (Notice view mask seals))) q own = own

  -- nor does a blame own what is never blame
  pub blame-owns : (st : List ℕ) → ((v : ℕ) → blame_statement v ≡ st → ⊥) → (x : Option (Sending R)) → BlameOnly x → Own S k w st x → ⊥
  blame-owns st never None q own = own
  blame-owns st never (Some relay) q own = own
  blame-owns st never (Some (write (Proposal c seal parent))) q own = q
  blame-owns st never (Some (write (Vote i c seal))) q own = q
  blame-owns st never (Some (write (Blame i view seal))) q own = never view own
  blame-owns st never (Some (write (Certified c))) q own = own
  blame-owns st never (Some (write (Notice view mask seals))) q own = own

module _ {L : ℕ} {R : Type 0} (S : ℕ) (k : Kind L R) (w : Setting) (law : Lawful w) where
  -- a seat's own statement that is a vote for b was sent as such a vote
  own-vote : (e : Event) (p : History) (b : Block R) (o : Outcome S R) → Moment S k w e p → Run S k w p → LawfulBlock k b → result S k w e p ≡ Ok o →
      Own S k w (vote_statement k b) o.sends.message ⊎ Own S k w (vote_statement k b) o.sends.blame → VotesFor S k w b e p
  own-vote e p b o now run lawful r (inr own) = absurd (blame-owns S k w (vote_statement k b) (λ v. blame-no-vote k v b) o.sends.blame (sent_so S k w law e p o now r).1 own)
  own-vote e p b o now run lawful r (inl own) = by (sent_so S k w law e p o now r).0
    where
      by : Passing o.sends.message ⊎ (VoteCast S k w e p o ⊎ OfferMade S k w e p o) → VotesFor S k w b e p
      by (inl q) = absurd (passing-owns S k w (vote_statement k b) o.sends.message q own)
      by (inr (inl v)) =
          let says : vote_statement k v.note.block ≡ vote_statement k b = subst (λ (x : Option (Sending R)). Own S k w (vote_statement k b) x) v.message own in
          let fine : LawfulBlock k v.note.block = (note-fine S k w law e.who p now.driven.at_sound run).lawful v.note.block (ap block_of v.noted) in
          let same : v.note.block ≡ b = vote-tells k v.note.block b fine lawful says in
          (o, r, v.message ∙ ap (λ (x : Block R). Some (write (Vote (w.terms e.who).own x (zero_seal S)))) same)
      by (inr (inr f)) =
          let says : proposal_statement k (offered_block (state S k w e.who p) f.content) ≡ vote_statement k b =
          subst (λ (x : Outcome S R). Own S k w (vote_statement k b) x.sends.message) f.made own in
          absurd (proposal-no-vote k (offered_block (state S k w e.who p) f.content) b says)

  -- what a seat said as a vote for a lawful block is its vote
  pub said-voted : (h : History) (j : ℕ) (b : Block R) → Run S k w h → LawfulBlock k b → Said S k w j (vote_statement k b) h → Voted S k w b h
  said-voted [] j b run lawful said = elim said [ ]
  said-voted (e ∷ p) j b run lawful (inl x) =
      was-here (λ e p. Sound w e.who × VotesFor S k w b e p) e p
      (run.0.driven.at_sound, own-vote e p b x.1.0 run.0 run.1 lawful x.1.1 x.1.2)
  said-voted (e ∷ p) j b run lawful (inr x) = was-more (λ e p. Sound w e.who × VotesFor S k w b e p) e p (said-voted p j b run.1 lawful x)

  -- more seats make a quorum than can go wrong
  pub quorum-above : unsound_from w.sound 0 w.n < quorum w.n
  quorum-above =
      let few : unsound w.sound w.n ≤ faults w.n = law.few in
      let same : unsound_from w.sound 0 w.n ≡ unsound w.sound w.n = unsound_from_lem w.sound w.n in
      omega arith

  -- a lawful row of good seals has one of a sound seat, and that seat said the statement before
  pub row-said : (h : History) (mask : ℕ) (st row : List ℕ) → lawful_mask w.n mask ≡ true → judge w.accepts (row_asked S mask 0 w.n st row) ≡ Ok tt →
      Each (HonestSeal S k w h) (row_asked S mask 0 w.n st row) → (j : ℕ) × Sound w j × Said S k w j st h
  row-said h mask st row lawful good honest =
      let full : ones mask 0 w.n ≡ quorum w.n = eqb-true (ones mask 0 w.n) (quorum w.n) (and_parts (ltb mask _) _ lawful).1 in
      let above : unsound_from w.sound 0 w.n < quorum w.n = quorum-above in
      let some = asked-sound w.sound S mask 0 w.n st row (omega arith) in
      let q = among-each _ _ (row_asked S mask 0 w.n st row) some (both (row_asked S mask 0 w.n st row) (judged w.accepts (row_asked S mask 0 w.n st row) good) honest) in
      (q.0.seat, q.1.0, subst (λ (x : List ℕ). Said S k w q.0.seat x h) q.1.1 (q.2.1 q.1.0 q.2.0))
    where
      both : (qs : List Question) → Each (λ q. w.accepts q.seat q.statement q.seal ≡ true) qs → Each (HonestSeal S k w h) qs →
          Each (λ q. (w.accepts q.seat q.statement q.seal ≡ true) × HonestSeal S k w h q) qs
      both [] a b = tt
      both (q ∷ qs) a b = ((a.0, b.0), both qs a.1 b.1)

  -- a certificate handed in is of a lawful block that a sound seat voted for before
  pub certified_voted : (e : Event) (p : History) (c : Certificate R (List ℕ)) → Moment S k w e p → Run S k w p → Handed S k w e (Certified c) → LawfulBlock k c.block × Voted S k w c.block p
  certified_voted e p c now run got =
      let q = row-said p c.mask (vote_statement k c.block) c.seals got.1.1.seats got.0.1 (now.honest (Certified c) got.0.0) in
      (got.1.0, said-voted p q.0 c.block run got.1.0 q.2)

  pub parent-voted : (e : Event) (p : History) (b : Block R) (seal : List ℕ) (c : Certificate R (List ℕ)) → Moment S k w e p → Run S k w p → Handed S k w e (Proposal b seal (Some c)) →
      LawfulBlock k c.block × Voted S k w c.block p
  parent-voted e p b seal c now run got =
      let first : Question = record { seat = w.leader b.rank.view; statement = proposal_statement k b; seal = seal } in
      let good : judge w.accepts (body_asked k S w.n w.leader c) ≡ Ok tt = (judged-first w.accepts first (body_asked k S w.n w.leader c) got.0.1).1 in
      let body : LawfulBody k S w.n c = got.1.2.1 in
      let q = row-said p c.mask (vote_statement k c.block) c.seals body.1.seats good (now.honest (Proposal b seal (Some c)) got.0.0).1 in
      (body.0, said-voted p q.0 c.block run body.0 q.2)
