-- What one call of a history does to its seat.
use Rattle.std.proofs.Common.{◌≡◌, ℕ, ◌+◌, ◌-◌, ◌*◌, ◌<◌, ◌≤◌, min, Bool, true, ltb, leb, ◌⊎◌, List, [], ◌∷◌, ◌++◌, Some, Ok, Err, Option, Result, sym, refl, ap, ◌∙◌, subst, inl, inr}
use Rattle.std.proofs.lemmas.Bool.{cond-true, cond-false, eq-eqb, ne_eqb}
use Rattle.content.specs.Kinds.{Kind}
use Rattle.content.specs.declared.refusal.Refusal.{Refusal}
use Rattle.content.specs.declared.refusal.Refusal.TheVariants.{LastTick, SlipOut, SmallOutbox}
use Rattle.wire.specs.Asked.{asked, judge, opened}
use Rattle.wire.specs.Lawful.{LawfulBlock, LawfulParts}
use Rattle.wire.specs.Layout.{message_bytes}
use Rattle.wire.specs.Reading.{read_parts}
use Rattle.wire.specs.declared.message.Certificate.{Certificate}
use Rattle.wire.specs.declared.message.Parts.{Parts}
use Rattle.wire.specs.declared.message.Parts.TheVariants.{Certified, Notice}
use Rattle.wire.proofs.OneForm.{lawful-from_read}
use Rattle.wire.proofs.Steps.{Gives, gives_ok, gives_next, gives_unless}
use Rattle.shelf.specs.Ancestry.{MayFollow}
use Rattle.shelf.specs.Blocks.{top_turn}
use Rattle.state.specs.Calls.{guarded, last_tick_of, least_outbox, state_after, blocks_after}
use Rattle.state.specs.HandIn.{hand_parts, last_view}
use Rattle.state.specs.Parts.{new_state, with_slip}
use Rattle.state.specs.Sends.{Outcome, Sending, relay, sending_bytes, write}
use Rattle.state.specs.Tick.{tick_step, turn_after}
use Rattle.state.specs.declared.state.Phase.TheVariants.{On, Leaving}
use Rattle.state.specs.declared.state.State.{State}
use Rattle.agreement.specs.Committed.{Takes}
use Rattle.agreement.specs.History.{Call, Desk, Event, History, Is, after, desk, hand, offer, outcome, result, sent, tick}
use Rattle.agreement.specs.Run.{Driven}
use Rattle.agreement.specs.Setting.{Lawful, Setting, Sound}
use Rattle.agreement.specs.Laws.{AsCertificate, SendsSome, shelf, state}
use Rattle.agreement.proofs.Facts.{AsNotice, Ticks}
use Rattle.agreement.proofs.Messages.{as_certificate_relayed, as_certificate-written, as_notice_relayed, as_notice-written}
use Rattle.agreement.proofs.OneStep.{CertificateSent, Effect, TickEffect, arrived, arrives, core, goes, later, leaves, left, message_effect, offer_effect, shelved, shelves, stays, tick_effect}

-- a call at a seat
abbrev pub event : ℕ → Call → Event
event i c = record { who = i; what = c }

-- a call that is carried out had no slip out and an outbox of enough bytes
pub gives_guarded : {S : ℕ} {R X : Type 0} {Q : X → Type 0} (s : State S R) (room : ℕ) (r : Result X Refusal) → Gives r Q → Gives (guarded s room r) Q
gives_guarded {Q} s room r h =
    gives_unless {Q = Q} s.slip _ SlipOut (λ _. gives_unless {Q = Q} (ltb room least_outbox) r SmallOutbox (λ _. h))

module _ {L : ℕ} {R : Type 0} (k : Kind L R) (S n : ℕ) (leader : ℕ → ℕ) (accepts : ℕ → List ℕ → List ℕ → Bool) where
  -- what is handed in and passes was read, and its seals were accepted
  abbrev pub Opened : List ℕ → Parts R (List ℕ) → Type 0
  Opened inbox m = (read_parts k S n inbox ≡ Ok m) × (judge accepts (asked k S n leader m) ≡ Ok tt)

  unit_ok : (u : Unit {0}) → ◌≡◌ {A = Result (Unit {0}) Refusal} (Ok u) (Ok tt)
  unit_ok u = refl

  pub gives_opened : (inbox : List ℕ) → Gives (opened k S n leader accepts inbox) (Opened inbox)
  gives_opened inbox =
      gives_next {P = λ m. read_parts k S n inbox ≡ Ok m} {Q = Opened inbox} (read_parts k S n inbox) _ (λ m e. e) (λ m e.
      gives_next {P = λ u. judge accepts (asked k S n leader m) ≡ Ok u} {Q = Opened inbox} (judge accepts (asked k S n leader m)) _ (λ u f. f) (λ u f.
      gives_ok (Opened inbox) m (e, f ∙ unit_ok u)))

module _ {L : ℕ} {R : Type 0} (S : ℕ) (k : Kind L R) (w : Setting) where
  -- a call of a seat moves that seat, and no other
  pub desk-mine : (i : ℕ) (e : Event) (p : History) → e.who ≡ i → desk S k w i (e ∷ p) ≡ after k w i e.what (desk S k w i p)
  unfolding desk
  desk-mine i e p h = cond-true _ _ _ (eq-eqb i e.who (sym h))

  pub desk-other : (i : ℕ) (e : Event) (p : History) → (e.who ≡ i → ⊥) → desk S k w i (e ∷ p) ≡ desk S k w i p
  unfolding desk
  desk-other i e p h = cond-false _ _ _ (ne_eqb i e.who (λ q. h (sym q)))

  pub desk-none : (i : ℕ) → desk S k w i [] ≡ record { state = new_state; blocks = [] }
  unfolding desk
  desk-none i = refl

  -- what a call, carried out or refused, does to its seat; what rests on lawful settings and on calls as they are driven is said under these
  -- premises
  pub data Step (e : Event) (p : History) (d : Desk S R) : Type 0 where
    rests : core d.state ≡ core (state S k w e.who p) → d.blocks ≡ shelf S k w e.who p → Step e p d
    ticks : Ticks e.what → core d.state ≡ later (core (state S k w e.who p)) → d.blocks ≡ shelf S k w e.who p →
        ((since : ℕ) → (state S k w e.who p).phase ≡ Leaving since →
        ((state S k w e.who p).now + 1) - since < 2 * (w.terms e.who).delta + 1) → Step e p d
    enters : Ticks e.what → (since : ℕ) → (state S k w e.who p).phase ≡ Leaving since →
        2 * (w.terms e.who).delta + 1 ≤ ((state S k w e.who p).now + 1) - since →
        core d.state ≡
        arrived (min ((state S k w e.who p).view + 1) last_view)
        (turn_after (top_turn (min ((state S k w e.who p).view + 1) last_view) (shelf S k w e.who p))) (core (state S k w e.who p)) →
        d.blocks ≡ shelf S k w e.who p → Step e p d
    takes : (c : Certificate R (List ℕ)) → (Lawful w → Driven S k w e p → LawfulBlock k c.block) →
        MayFollow (shelf S k w e.who p) c.block →
        core d.state ≡ shelved c (state S k w e.who p).spoiled (core (state S k w e.who p)) →
        d.blocks ≡ shelf S k w e.who p ++ (c.block ∷ []) → Takes S k w c.block e p →
        (Lawful w → Driven S k w e p → SendsSome S k w (AsCertificate S k w c.block) e p) → Step e p d
    departs : (v : ℕ) → (Lawful w → Driven S k w e p → v < 65535) →
        (((state S k w e.who p).view < v) ⊎ (((state S k w e.who p).phase ≡ On) × ((state S k w e.who p).view ≡ v))) →
        core d.state ≡ left v (core (state S k w e.who p)) → d.blocks ≡ shelf S k w e.who p →
        (Lawful w → Driven S k w e p → SendsSome S k w (AsNotice S k w v) e p) → Step e p d

  -- the seat after a call that was carried out with an outcome
  abbrev done : Outcome S R → Desk S R
  done o = record { state = with_slip true o.state; blocks = o.blocks }

  by_result : (e : Event) (p : History) (r : Result (Outcome S R) Refusal) → ((o : Outcome S R) → r ≡ Ok o → Step e p (done o)) →
      Step e p (record { state = state_after (state S k w e.who p) r; blocks = blocks_after (shelf S k w e.who p) r })
  by_result e p (Ok o) h = h o refl
  by_result e p (Err x) h = rests refl refl

  sent_as : (inbox : List ℕ) (x : Option (Sending R)) (s : Sending R) → x ≡ Some s → Is S k w inbox (sending_bytes k inbox s) x
  sent_as inbox x s e = subst (Is S k w inbox (sending_bytes k inbox s)) (sym e) refl

  reads_here : (i : ℕ) (inbox : List ℕ) (m : Parts R (List ℕ)) → Lawful w → Sound w i → read_parts k S (w.terms i).seats.n inbox ≡ Ok m →
      read_parts k S w.n inbox ≡ Ok m
  reads_here i inbox m l s e = subst (λ n. read_parts k S n inbox ≡ Ok m) (l.shares_n i s) e

  module _ (i : ℕ) (inbox : List ℕ) (room : ℕ) (p : History) (m : Parts R (List ℕ)) (o : Outcome S R)
      (reads : read_parts k S (w.terms i).seats.n inbox ≡ Ok m) (did : result S k w (event i (hand inbox room)) p ≡ Ok o) where
    abbrev this : Event
    this = event i (hand inbox room)

    certificate-sends : (c : Certificate R (List ℕ)) → (Lawful w → Driven S k w this p → LawfulBlock k c.block) →
        CertificateSent m c o.sends.certificate → Lawful w → Driven S k w this p → SendsSome S k w (AsCertificate S k w c.block) this p
    certificate-sends c lawful (inl x) l d = (
      message_bytes k (Certified c),
      (o, did, inl (sent_as inbox o.sends.certificate (write (Certified c)) x)),
      as_certificate-written S k w c (lawful l d),
    )
    certificate-sends c lawful (inr x) l d = (
      inbox,
      (o, did, inl (sent_as inbox o.sends.certificate relay x.0)),
      as_certificate_relayed S k w inbox c (reads_here i inbox (Certified c) l d.at_sound (reads ∙ ap Ok x.1)),
    )

    notice-sends : (v mask : ℕ) (seals : List ℕ) → (Lawful w → Driven S k w this p → v < 65535) →
        ((o.sends.message ≡ Some (write (Notice v mask seals))) ⊎ ((o.sends.message ≡ Some relay) × (m ≡ Notice v mask seals))) →
        Lawful w → Driven S k w this p → SendsSome S k w (AsNotice S k w v) this p
    notice-sends v mask seals small (inl x) l d = (
      message_bytes k (Notice v mask seals),
      (o, did, inr (inl (sent_as inbox o.sends.message (write (Notice v mask seals)) x))),
      as_notice-written S k w v mask seals (small l d),
    )
    notice-sends v mask seals small (inr x) l d = (
      inbox,
      (o, did, inr (inl (sent_as inbox o.sends.message relay x.0))),
      as_notice_relayed S k w inbox v mask seals (reads_here i inbox (Notice v mask seals) l d.at_sound (reads ∙ ap Ok x.1)),
    )

    lawful-here : Driven S k w this p → LawfulParts k S (w.terms i).seats.n m
    lawful-here d = lawful-from_read k S (w.terms i).seats.n inbox m d.in_bytes reads

    message-step : Effect k (LawfulParts k S (w.terms i).seats.n m) m (state S k w i p) (shelf S k w i p) o → Step this p (done o)
    message-step (stays c b) = rests c b
    message-step (shelves c lawful follows co b how) =
        takes c (λ _ d. lawful (lawful-here d)) follows co b (o, did, b)
        (certificate-sends c (λ _ d. lawful (lawful-here d)) how)
    message-step (leaves v small leads co b how) =
        departs v (λ _ d. small (lawful-here d)) leads co b (notice-sends v how.0 how.1 (λ _ d. small (lawful-here d)) how.2)

  -- the message that a call handed in, if it was carried out
  pub gives_hand : (i : ℕ) (inbox : List ℕ) (room : ℕ) (d : Desk S R) → Gives (outcome k w i (hand inbox room) d) (λ o.
      (m : Parts R (List ℕ)) × Opened k S (w.terms i).seats.n w.leader w.accepts inbox m × (hand_parts k (w.terms i) d.state d.blocks (w.cells i) m ≡ Ok o))
  gives_hand i inbox room d =
      let n : ℕ = (w.terms i).seats.n in
      let Q : Outcome S R → Type 0 = λ o. (m : Parts R (List ℕ)) × Opened k S n w.leader w.accepts inbox m × (hand_parts k (w.terms i) d.state d.blocks (w.cells i) m ≡ Ok o) in
      gives_guarded {Q = Q} d.state room _
      (gives_next {P = Opened k S n w.leader w.accepts inbox} {Q = Q} (opened k S n w.leader w.accepts inbox) _ (gives_opened k S n w.leader w.accepts inbox)
      (λ m op o e. (m, op, e)))

  step_of : (i : ℕ) (c : Call) (p : History) → Step (event i c) p (after k w i c (desk S k w i p))
  step_of i (hand inbox room) p =
      let d : Desk S R = desk S k w i p in
      by_result (event i (hand inbox room)) p (outcome k w i (hand inbox room) d) (λ o e.
      let g = gives_hand i inbox room d o e in
      message-step i inbox room p g.0 o g.1.0 e (message_effect k (w.terms i) (w.terms i).seats.n d.state d.blocks (w.cells i) g.0 o g.2))
  step_of i (tick room) p =
      let d : Desk S R = desk S k w i p in
      let t : Outcome S R = tick_step (w.terms i) d.state d.blocks in
      let this : Event = event i (tick room) in
      by_result this p (outcome k w i (tick room) d)
      (gives_guarded {Q = λ o. Step this p (done o)} d.state room _
      (gives_unless {Q = λ o. Step this p (done o)} (leb last_tick_of d.state.now) _ LastTick (λ _.
      gives_ok (λ o. Step this p (done o)) t (tick_step_lem t (tick_effect (w.terms i) d.state d.blocks)))))
    where
      tick_step_lem : (t : Outcome S R) → TickEffect (w.terms i) (state S k w i p) (shelf S k w i p) t → Step (event i (tick room)) p (done t)
      tick_step_lem t (goes c b short) = ticks tt c b short
      tick_step_lem t (arrives since ph long c b) = enters tt since ph long c b
  step_of i (offer content room) p =
      let d : Desk S R = desk S k w i p in
      let this : Event = event i (offer content room) in
      by_result this p (outcome k w i (offer content room) d)
      (gives_guarded {Q = λ o. Step this p (done o)} d.state room _
      (λ o e. let g = offer_effect k (w.terms i) w.leader d.state d.blocks content o e in rests g.0 g.1))
  step_of i sent p = rests refl refl

  -- what any call does to its seat
  pub step : (e : Event) (p : History) → Step e p (desk S k w e.who (e ∷ p))
  step e p = subst (Step e p) (sym (desk-mine e.who e p refl)) (step_of e.who e.what p)
