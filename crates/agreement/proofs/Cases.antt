-- What a call that was carried out can have come to, handler by handler: whatever holds of each way holds of the outcome.
use Rattle.std.proofs.Common.{◌≡◌, ℕ, ◌+◌, ◌-◌, ◌*◌, min, Bool, true, false, cond, not, ◌&&◌, ◌||◌, eqb, ltb, leb, ◌⊎◌, List, is_some, Some, None, Ok, Err, Option, Result, sym, refl, ap, ◌∙◌, subst, inl, inr}
use Rattle.std.proofs.lemmas.Bool.{and_parts, cond_both}
use Rattle.content.specs.Kinds.{Kind, read_content}
use Rattle.content.specs.declared.refusal.Refusal.{Refusal}
use Rattle.content.specs.declared.refusal.Refusal.TheVariants.{SlipOut, SmallOutbox, LastView, NotLeader, OfferLeaving, OfferSpoiled, OfferedAlready, NoPlaceLeft, OfferTooSoon, NoLawfulParent}
use Rattle.blocks.specs.Ranks.{same_block}
use Rattle.blocks.specs.declared.block.Block.{Block}
use Rattle.wire.specs.Asked.{asked, judge, opened}
use Rattle.wire.specs.Reading.{next, read_parts}
use Rattle.wire.specs.declared.message.Certificate.{Certificate}
use Rattle.wire.specs.declared.message.Parts.{Parts}
use Rattle.wire.specs.declared.message.Parts.TheVariants.{Vote, Certified}
use Rattle.shelf.specs.Blocks.{top_turn}
use Rattle.state.specs.Calls.{guarded, hand_in, last_tick_of, least_outbox, offer as offer_call, tick as tick_call}
use Rattle.state.specs.HandIn.{acceptable, accepted_at, accepts, add_seal, adds, at_note, blame, carried, certificate_of, clashes, completed, countable, counted, hand_parts, has_seal, idle, last_view, leaves, notice, notice_of, proposal, proposed, quorate, slot_open, take_in, taken, vote}
use Rattle.state.specs.Offer.{can_carry, last_height, last_turn, next_height, offers, too_soon}
use Rattle.state.specs.Parts.{is_on, with_blames, with_note, with_now, with_votes}
use Rattle.state.specs.Sends.{Outcome, Sending, relay, write, zero_seal}
use Rattle.state.specs.TakeIn.{judge_in}
use Rattle.state.specs.declared.taking.Verdict.{Verdict}
use Rattle.state.specs.declared.taking.Verdict.TheVariants.{Known, New}
use Rattle.state.specs.Tick.{enter, entered, blames, on_tick, tick_step, ticked, turn_after, vote_due, voted_for}
use Rattle.state.specs.declared.answer.Word.{Word}
use Rattle.state.specs.declared.answer.Word.TheVariants.{Idle, Noted, Accepted, Voted}
use Rattle.state.specs.declared.state.Note.{Note}
use Rattle.state.specs.declared.state.Phase.{Phase}
use Rattle.state.specs.declared.state.Phase.TheVariants.{On, Leaving}
use Rattle.state.specs.declared.state.State.{State}
use Rattle.state.specs.declared.state.Terms.{Terms}
use Rattle.agreement.proofs.Basics.{err_ok, ok_same}

-- a test that comes to yes or no
pub by_test : (b : Bool) {Q : Type 0} → (b ≡ true → Q) → (b ≡ false → Q) → Q
by_test true f g = f refl
by_test false f g = g refl

-- what a conditional that is carried out came to
pub cond_ok : {X : Type 0} (b : Bool) (x y : Result X Refusal) (z : X) (Q : Type 0) → cond b x y ≡ Ok z → (b ≡ true → x ≡ Ok z → Q) → (b ≡ false → y ≡ Ok z → Q) → Q
cond_ok true x y z Q e f g = f refl e
cond_ok false x y z Q e f g = g refl e

pub next_ok : {X Y : Type 0} (r : Result X Refusal) (f : X → Result Y Refusal) (y : Y) → next r f ≡ Ok y → (x : X) × (r ≡ Ok x) × (f x ≡ Ok y)
next_ok (Ok x) f y e = (x, refl, e)
next_ok (Err r) f y e = absurd (err_ok e)

pub carried_ok : {X Y : Type 0} (f : X → Y) (r : Result X Refusal) (y : Y) → carried f r ≡ Ok y → (x : X) × (r ≡ Ok x) × (f x ≡ y)
carried_ok f (Ok x) y e = (x, refl, ok_same e)
carried_ok f (Err r) y e = absurd (err_ok e)

pub unless_ok : {X : Type 0} (b : Bool) (r : Refusal) (x : Result X Refusal) (z : X) → cond b (Err r) x ≡ Ok z → (b ≡ false) × (x ≡ Ok z)
unless_ok true r x z e = absurd (err_ok e)
unless_ok false r x z e = (refl, e)

pub when_ok : {X : Type 0} (b : Bool) (r : Refusal) (x : Result X Refusal) (z : X) → cond b x (Err r) ≡ Ok z → (b ≡ true) × (x ≡ Ok z)
when_ok true r x z e = (refl, e)
when_ok false r x z e = absurd (err_ok e)

guards : {X : Type 0} (b₁ b₂ b₃ b₄ b₅ b₆ b₇ : Bool) (r₁ r₂ r₃ r₄ r₅ r₆ r₇ : Refusal) (o x : X) →
    cond b₁ (Err r₁) (cond b₂ (Err r₂) (cond b₃ (Err r₃) (cond b₄ (Err r₄) (cond b₅ (Err r₅) (cond b₆ (Err r₆) (cond b₇ (Ok o) (Err r₇))))))) ≡ Ok x →
    (b₂ ≡ false) × (b₃ ≡ false) × (b₄ ≡ false) × (b₅ ≡ false) × (o ≡ x)
guards b₁ b₂ b₃ b₄ b₅ b₆ b₇ r₁ r₂ r₃ r₄ r₅ r₆ r₇ o x e =
    let g₁ = unless_ok b₁ r₁ _ x e in
    let g₂ = unless_ok b₂ r₂ _ x g₁.1 in
    let g₃ = unless_ok b₃ r₃ _ x g₂.1 in
    let g₄ = unless_ok b₄ r₄ _ x g₃.1 in
    let g₅ = unless_ok b₅ r₅ _ x g₄.1 in
    let g₆ = unless_ok b₆ r₆ _ x g₅.1 in
    let g₇ = when_ok b₇ r₇ (Ok o) x g₆.1 in
    (g₂.0, g₃.0, g₄.0, g₅.0, ok_same g₇.1)

pub guarded_ok : {S : ℕ} {R X : Type 0} (s : State S R) (room : ℕ) (r : Result X Refusal) (x : X) → guarded s room r ≡ Ok x → r ≡ Ok x
guarded_ok s room r x e =
    cond_ok s.slip (Err SlipOut) _ x (r ≡ Ok x) e (λ _ z. absurd (err_ok z))
    (λ _ f. cond_ok (ltb room least_outbox) (Err SmallOutbox) r x (r ≡ Ok x) f (λ _ z. absurd (err_ok z)) (λ _ g. g))

module _ {L : ℕ} {R : Type 0} (k : Kind L R) where
  -- the block that the seat has as its note once it takes the proposal of b: a new note, or the note of the same block
  abbrev pub NoteFor : Block R → Option (Note R) → Note R → Type 0
  NoteFor b old note =
      ((old ≡ None) × (note ≡ record { block = b; accepted = None; voted = false })) ⊎ ((old ≡ Some note) × (same_block k note.block b ≡ true))

module _ {L S : ℕ} {R : Type 0} (k : Kind L R) (p : Terms) where
  -- a message handed in was read, its seals were good, and the seat stepped
  pub handed : (leader : ℕ → ℕ) (ok : ℕ → List ℕ → List ℕ → Bool) (s : State S R) (bs : List (Block R)) (cells : ℕ) (inbox : List ℕ) (room : ℕ) (o : Outcome S R) →
      hand_in k p leader ok s bs cells inbox room ≡ Ok o →
      (m : Parts R (List ℕ)) × (read_parts k S p.seats.n inbox ≡ Ok m) × (judge ok (asked k S p.seats.n leader m) ≡ Ok tt) × (hand_parts k p s bs cells m ≡ Ok o)
  handed leader ok s bs cells inbox room o e =
      let f = next_ok (opened k S p.seats.n leader ok inbox) (hand_parts k p s bs cells) o (guarded_ok s room _ o e) in
      let g = next_ok (read_parts k S p.seats.n inbox) _ f.0 f.1 in
      let h = next_ok (judge ok (asked k S p.seats.n leader g.0)) _ f.0 g.2 in
      let same : g.0 ≡ f.0 = ok_same h.2 in
      (g.0, g.1, h.1, ap (hand_parts k p s bs cells) same ∙ f.2)

  -- a proposal, once its parent was taken in
  module _ (P : Outcome S R → Type 0) (b : Block R) (o : Outcome S R)
      (stays : slot_open o.state b ≡ false → P o)
      (takes : (note : Note R) (rest : Word) → slot_open o.state b ≡ true → NoteFor k b o.state.round.note note → (rest ≡ Noted) ⊎ (rest ≡ o.word) →
      P (adds o rest None None (with_note (Some note) o.state)))
      (passes : (note : Note R) → slot_open o.state b ≡ true → NoteFor k b o.state.round.note note → acceptable o.state note.block ≡ true → is_some note.accepted ≡ false →
      P (adds o Accepted (Some relay) None (with_note (Some (accepted_at o.state.now note)) o.state)))
      (refuses : (note : Note R) → slot_open o.state b ≡ true → o.state.round.note ≡ Some note → same_block k note.block b ≡ false → P (clashes p o)) where
    accepts_cases : (note : Note R) (rest : Word) → slot_open o.state b ≡ true → NoteFor k b o.state.round.note note → (rest ≡ Noted) ⊎ (rest ≡ o.word) → P (accepts o rest note)
    accepts_cases note rest slot fit word =
        cond_both (acceptable o.state note.block && not (is_some note.accepted)) _ _ P
        (λ t. let q = and_parts (acceptable o.state note.block) _ t in passes note slot fit q.0 (off (is_some note.accepted) q.1))
        (λ _. takes note rest slot fit word)
      where
        off : (b : Bool) → not b ≡ true → b ≡ false
        off true e = sym e
        off false e = refl

    note_cases : (old : Option (Note R)) → o.state.round.note ≡ old → slot_open o.state b ≡ true → P (at_note k p o b old)
    note_cases None e slot = accepts_cases (record { block = b; accepted = None; voted = false }) Noted slot (inl (e, refl)) (inl refl)
    note_cases (Some note) e slot =
        cond_both (same_block k note.block b) _ _ P
        (λ t. accepts_cases note o.word slot (inr (e, t)) (inr refl))
        (λ f. refuses note slot e f)

    pub proposed_cases : P (proposed k p b o)
    proposed_cases =
        cond_both (slot_open o.state b) _ _ P (λ slot. note_cases o.state.round.note refl slot) stays

  module _ (P : Outcome S R → Type 0) (s : State S R) (bs : List (Block R)) (cells : ℕ) (o : Outcome S R) where
    verdict_cases : (f : Verdict → Outcome S R) (b : Block R) → carried f (judge_in k s bs cells b) ≡ Ok o →
        (judge_in k s bs cells b ≡ Ok Known → P (f Known)) → (judge_in k s bs cells b ≡ Ok New → P (f New)) → P o
    verdict_cases f b e g h =
        let c = carried_ok f (judge_in k s bs cells b) o e in
        subst P c.2 (by c.0 c.1)
      where
        by : (v : Verdict) → judge_in k s bs cells b ≡ Ok v → P (f v)
        by Known t = g t
        by New t = h t

    pub taken_cases : (c : Certificate R (List ℕ)) (sending : Sending R) → take_in k s bs cells c sending ≡ Ok o →
        (judge_in k s bs cells c.block ≡ Ok Known → P (idle s bs)) → (judge_in k s bs cells c.block ≡ Ok New → P (taken s bs c sending New)) → P o
    taken_cases c sending e g h = verdict_cases (taken s bs c sending) c.block e g h

    pub proposal_cases : (b : Block R) (parent : Option (Certificate R (List ℕ))) → proposal k p s bs cells b parent ≡ Ok o →
        (parent ≡ None → P (proposed k p b (idle s bs))) →
        ((c : Certificate R (List ℕ)) → parent ≡ Some c → judge_in k s bs cells c.block ≡ Ok Known → P (proposed k p b (idle s bs))) →
        ((c : Certificate R (List ℕ)) → parent ≡ Some c → judge_in k s bs cells c.block ≡ Ok New → P (proposed k p b (taken s bs c (write (Certified c)) New))) → P o
    proposal_cases b None e g h i = subst P (ok_same e) (g refl)
    proposal_cases b (Some c) e g h i =
        let q = carried_ok (proposed k p b) (take_in k s bs cells c (write (Certified c))) o e in
        let r = carried_ok (taken s bs c (write (Certified c))) (judge_in k s bs cells c.block) q.0 q.1 in
        subst P (ap (proposed k p b) r.2 ∙ q.2) (by r.0 r.1)
      where
        by : (v : Verdict) → judge_in k s bs cells c.block ≡ Ok v → P (proposed k p b (taken s bs c (write (Certified c)) v))
        by Known t = h c refl t
        by New t = i c refl t

    pub blame_cases : (i view : ℕ) (seal : List ℕ) → blame p s bs i view seal ≡ Ok o → P (idle s bs) →
        (eqb view last_view ≡ false → is_on s.phase ≡ true → eqb s.view view ≡ true → P (counted (with_blames (add_seal s.blames i seal) s) bs)) →
        (eqb view last_view ≡ false → is_on s.phase ≡ true → eqb s.view view ≡ true → P (leaves (with_blames (add_seal s.blames i seal) s) bs view (write (notice_of view (add_seal s.blames i seal))))) → P o
    blame_cases i view seal e g h l =
        cond_ok (eqb view last_view) (Err LastView) _ o (P o) e (λ _ z. absurd (err_ok z)) (λ low f.
        cond_ok (is_on s.phase && (eqb s.view view && not (has_seal s.blames i))) _ _ o (P o) f
        (λ t z.
        let q = and_parts (is_on s.phase) _ t in
        let r = and_parts (eqb s.view view) _ q.1 in
        subst P (ok_same z) (cond_both (quorate p (add_seal s.blames i seal)) _ _ P (λ _. l low q.0 r.0) (λ _. h low q.0 r.0)))
        (λ _ z. subst P (ok_same z) g))

    pub notice_cases : (view : ℕ) → notice s bs view ≡ Ok o → P (idle s bs) →
        (eqb view last_view ≡ false → (ltb s.view view || (is_on s.phase && eqb s.view view)) ≡ true → P (leaves s bs view relay)) → P o
    notice_cases view e g l =
        cond_ok (eqb view last_view) (Err LastView) _ o (P o) e (λ _ z. absurd (err_ok z)) (λ low f.
        cond_ok (ltb s.view view || (is_on s.phase && eqb s.view view)) _ _ o (P o) f
        (λ t z. subst P (ok_same z) (l low t)) (λ _ z. subst P (ok_same z) g))

  module _ (P : Outcome S R → Type 0) (s : State S R) (bs : List (Block R)) (cells : ℕ) (o : Outcome S R) where
    pub vote_cases : (i : ℕ) (b : Block R) (seal : List ℕ) → vote k p s bs cells i b seal ≡ Ok o → P (idle s bs) →
        (countable k s i b ≡ true → P (counted (with_votes (add_seal s.round.votes i seal) s) bs)) →
        (countable k s i b ≡ true → quorate p (add_seal s.round.votes i seal) ≡ true →
        judge_in k (with_votes (add_seal s.round.votes i seal) s) bs cells b ≡ Ok New →
        P (taken (with_votes (add_seal s.round.votes i seal) s) bs (certificate_of b (add_seal s.round.votes i seal)) (write (Certified (certificate_of b (add_seal s.round.votes i seal)))) New)) → P o
    vote_cases i b seal e g h t =
        cond_ok (countable k s i b) _ _ o (P o) e
        (λ c f. cond_ok (quorate p (add_seal s.round.votes i seal)) _ _ o (P o) f
        (λ q z. verdict_cases P (with_votes (add_seal s.round.votes i seal) s) bs cells o
        (completed (with_votes (add_seal s.round.votes i seal) s) bs (certificate_of b (add_seal s.round.votes i seal))) b z (λ _. h c) (λ n. t c q n))
        (λ _ z. subst P (ok_same z) (h c)))
        (λ _ z. subst P (ok_same z) g)

  -- an offer that was taken
  pub offered_so : (leader : ℕ → ℕ) (s : State S R) (bs : List (Block R)) (content : List ℕ) (room : ℕ) (o : Outcome S R) → offer_call k p leader s bs content room ≡ Ok o →
      (r : R) × (o ≡ offers p s bs r) × (is_on s.phase ≡ true) × (s.round.offered ≡ false) × ((ltb last_turn s.turn || ltb last_height (next_height s.best)) ≡ false) × (s.spoiled ≡ false)
  offered_so leader s bs content room o e =
      let f = next_ok (read_content k content) _ o (guarded_ok s room _ o e) in
      let g = guards (not (eqb (leader s.view) p.own)) (not (is_on s.phase)) s.spoiled s.round.offered
      (ltb last_turn s.turn || ltb last_height (next_height s.best)) (too_soon p s) (can_carry s.view s.turn s.best)
      NotLeader OfferLeaving OfferSpoiled OfferedAlready NoPlaceLeft OfferTooSoon NoLawfulParent (offers p s bs f.0) o f.2 in
      (f.0, sym g.4, off (is_on s.phase) g.0, g.2, g.3, g.1)
    where
      off : (b : Bool) → not b ≡ false → b ≡ true
      off true e = refl
      off false e = sym e

module _ {S : ℕ} {R : Type 0} (p : Terms) where
  -- a tick: the clock is one on, and then the seat
  pub tick_so : (s : State S R) (bs : List (Block R)) (room : ℕ) (o : Outcome S R) → tick_call p s bs room ≡ Ok o → o ≡ tick_step p s bs
  tick_so s bs room o e =
      cond_ok (leb last_tick_of s.now) _ _ o (o ≡ tick_step p s bs) (guarded_ok s room _ o e) (λ _ z. absurd (err_ok z)) (λ _ z. sym (ok_same z))

  module _ (P : Outcome S R → Type 0) (s : State S R) (bs : List (Block R))
      (waits : P (idle (with_now (s.now + 1) s) bs))
      (enters : (since : ℕ) → s.phase ≡ Leaving since → leb (2 * p.delta + 1) (s.now + 1 - since) ≡ true →
      P (entered p (enter (min (s.view + 1) last_view) (turn_after (top_turn (min (s.view + 1) last_view) bs)) (with_now (s.now + 1) s)) bs))
      (sits : s.phase ≡ On → P (blames p Idle None (with_now (s.now + 1) s) bs))
      (votes : (note : Note R) → s.phase ≡ On → s.round.note ≡ Some note → vote_due p (with_now (s.now + 1) s) note ≡ true →
      P (blames p Voted (Some (write (Vote p.own note.block (zero_seal S)))) (with_note (Some (voted_for note)) (with_now (s.now + 1) s)) bs)) where
    on_cases : (old : Option (Note R)) → s.round.note ≡ old → s.phase ≡ On → P (on_tick p old (with_now (s.now + 1) s) bs)
    on_cases None e on = sits on
    on_cases (Some note) e on =
        cond_both (vote_due p (with_now (s.now + 1) s) note) _ _ P (λ t. votes note on e t) (λ _. sits on)

    phase_cases : (f : Phase) → s.phase ≡ f → P (ticked p f (with_now (s.now + 1) s) bs)
    phase_cases On e = on_cases s.round.note refl e
    phase_cases (Leaving since) e = cond_both (leb (2 * p.delta + 1) (s.now + 1 - since)) _ _ P (λ t. enters since e t) (λ _. waits)

    pub tick_cases : P (tick_step p s bs)
    tick_cases = phase_cases s.phase refl
