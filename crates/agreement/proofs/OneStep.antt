-- What one call does to a seat, handler by handler: its core (time, stage, turn, lock, best, last commit) and its shelf.
use Rattle.std.proofs.Common.{◌≡◌, ℕ, ◌+◌, ◌-◌, ◌*◌, ◌<◌, ◌≤◌, min, Bool, true, false, cond, not, ◌&&◌, ◌||◌, eqb, ltb, leb, ◌⊎◌, List, [], ◌∷◌, ◌++◌, length, Some, None, Ok, Err, Option, Result, sym, refl, ◌∙◌, subst, inl, inr, arith}
use Rattle.std.proofs.lemmas.Bool.{false≢true, cases_Bool, cond-false, cond_both, and_parts, or_cases, eqb-true, eqb-false, ltb-true, leb-true, leb-false}
use Rattle.content.specs.Kinds.{Kind, read_content}
use Rattle.content.specs.declared.refusal.Refusal.{Refusal}
use Rattle.content.specs.declared.refusal.Refusal.TheVariants.{Orphan, Rival, Full, Fork, LastView, NotLeader, OfferLeaving, OfferSpoiled, OfferedAlready, NoPlaceLeft, OfferTooSoon, NoLawfulParent}
use Rattle.blocks.specs.Ranks.{Place, parent_of, same_block}
use Rattle.blocks.specs.declared.block.Block.{Block}
use Rattle.blocks.specs.declared.rows.SealRow.{SealRow}
use Rattle.wire.specs.Lawful.{LawfulBlock, LawfulParent, LawfulParts, TwoBytes}
use Rattle.wire.specs.declared.message.Certificate.{Certificate}
use Rattle.wire.specs.declared.message.Parts.{Parts}
use Rattle.wire.specs.declared.message.Parts.TheVariants.{Proposal, Vote, Blame, Certified, Notice}
use Rattle.wire.proofs.Steps.{Gives, gives_err, gives_ok, gives_if, gives_next, gives_unless, gives_either}
use Rattle.shelf.specs.Ancestry.{MayFollow, Parent}
use Rattle.shelf.specs.Blocks.{find, read_below, top_turn}
use Rattle.state.specs.HandIn.{accepts, add_seal, at_note, blame, carried, certificate_of, clashes, completed, countable, hand_parts, has_seal, idle, last_view, notice, proposal, proposed, quorate, slot_open, taken, take_in, vote}
use Rattle.state.specs.Offer.{can_carry, last_height, last_turn, next_height, offer_step, too_soon}
use Rattle.state.specs.Parts.{is_on, turn_rises, with_best, with_committed, with_note, with_now, with_votes}
use Rattle.state.specs.Sends.{Outcome, Sending, relay, write, zero_seal}
use Rattle.state.specs.TakeIn.{better, commits, here, extends, is_last, judge_in, judge_found, one_up, parent_there, shelve}
use Rattle.state.specs.Tick.{blames, enter, entered, on_tick, place_of, tick_step, ticked, turn_after, voted_for, vote_due}
use Rattle.state.specs.declared.answer.Word.{Word}
use Rattle.state.specs.declared.answer.Word.TheVariants.{Idle, Noted, Voted}
use Rattle.state.specs.declared.state.Best.{Best}
use Rattle.state.specs.declared.state.Note.{Note}
use Rattle.state.specs.declared.state.Phase.{Phase}
use Rattle.state.specs.declared.state.Phase.TheVariants.{On, Leaving}
use Rattle.state.specs.declared.state.State.{State}
use Rattle.state.specs.declared.state.Terms.{Terms}
use Rattle.state.specs.declared.taking.Verdict.{Verdict}
use Rattle.state.specs.declared.taking.Verdict.TheVariants.{Known, New}

-- a seat is on where the test says so
pub on-from_test : (ph : Phase) → is_on ph ≡ true → ph ≡ On
on-from_test On e = refl
on-from_test (Leaving since) e = absurd (false≢true e)

-- on is not leaving
pub on-leaving : (since : ℕ) → On ≡ Leaving since → ⊥
on-leaving since e = let z : ◌≡◌ {A = ℕ} 0 1 = cc in omega arith

carries : {L : ℕ} {R : Type 0} (k : Kind L R) (S n : ℕ) (b : Block R) (parent : Option (Certificate R (List ℕ))) (c : Certificate R (List ℕ)) → parent ≡ Some c →
    LawfulParent k S n b parent → LawfulBlock k c.block
carries k S n b None c e l = absurd (let z : ◌≡◌ {A = ℕ} 0 1 = cc in omega arith)
carries k S n b (Some d) c e l = let same : d ≡ c = cc in subst (λ x. LawfulBlock k x.block) same l.1.0

-- a carried result comes from one
pub gives_carried : {X Y : Type 0} (Q : Y → Type 0) (f : X → Y) (r : Result X Refusal) → Gives r (λ x. Q (f x)) → Gives (carried f r) Q
gives_carried Q f (Ok x) h = gives_ok Q (f x) (h x refl)
gives_carried Q f (Err e) h = gives_err Q e

-- so does one that is carried twice
pub gives_twice : {X Y Z : Type 0} (Q : Z → Type 0) (f : X → Y) (g : Y → Z) (r : Result X Refusal) → Gives r (λ x. Q (g (f x))) → Gives (carried g (carried f r)) Q
gives_twice Q f g (Ok x) h = gives_ok Q (g (f x)) (h x refl)
gives_twice Q f g (Err e) h = gives_err Q e

-- what of a seat counts for its time and its shelf
pub record Core (R : Type 0) : Type 0 where
  pub now : ℕ
  pub phase : Phase
  pub view : ℕ
  pub turn : ℕ
  pub lock : Place
  pub best : Option (Best R)
  pub committed : Option (Block R)

abbrev pub core : {S : ℕ} {R : Type 0} → State S R → Core R
core s = record {
  now = s.now;
  phase = s.phase;
  view = s.view;
  turn = s.turn;
  lock = s.lock;
  best = s.best;
  committed = s.committed;
}

-- the core after a certificate is shelved, in a seat that is spoiled or not: in the seat's own view the turn rises, and the block is
-- committed where the seat isn't spoiled
abbrev pub here_in : {R : Type 0} → Core R → Block R → Bool
here_in x b = is_on x.phase && eqb x.view b.rank.view

abbrev pub shelved : {R : Type 0} → Certificate R (List ℕ) → (spoiled : Bool) → Core R → Core R
shelved c spoiled x = record {
  now = x.now;
  phase = x.phase;
  view = x.view;
  turn = cond (here_in x c.block) (min (x.turn + 1) 4294967295) x.turn;
  lock = x.lock;
  best = better x.best c;
  committed = cond (here_in x c.block && not spoiled) (Some c.block) x.committed;
}

-- the core after a view is left
abbrev pub left : {R : Type 0} → ℕ → Core R → Core R
left v x = record {
  now = x.now;
  phase = Leaving x.now;
  view = v;
  turn = x.turn;
  lock = x.lock;
  best = x.best;
  committed = x.committed;
}

-- the core one tick later, and after a view is entered
abbrev pub later : {R : Type 0} → Core R → Core R
later x = record {
  now = x.now + 1;
  phase = x.phase;
  view = x.view;
  turn = x.turn;
  lock = x.lock;
  best = x.best;
  committed = x.committed;
}

abbrev pub arrived : {R : Type 0} → (view turn : ℕ) → Core R → Core R
arrived v t x = record {
  now = x.now + 1;
  phase = On;
  view = v;
  turn = t;
  lock = place_of x.best;
  best = x.best;
  committed = x.committed;
}

abbrev shelved_by : {R : Type 0} → Bool → Bool → Certificate R (List ℕ) → Core R → Core R
shelved_by h m c x = record {
  now = x.now;
  phase = x.phase;
  view = x.view;
  turn = cond h (min (x.turn + 1) 4294967295) x.turn;
  lock = x.lock;
  best = better x.best c;
  committed = cond m (Some c.block) x.committed;
}

module _ {S : ℕ} {R : Type 0} where
  abbrev shelve_by : Bool → Bool → Certificate R (List ℕ) → State S R → State S R
  shelve_by h m c s =
      let t : State S R = with_best (better s.best c) s in
      let u : State S R = cond h (turn_rises (min (s.turn + 1) 4294967295) t) t in
      cond m (with_committed c.block u) u

  core-by : (h m : Bool) (c : Certificate R (List ℕ)) (s : State S R) → core (shelve_by h m c s) ≡ shelved_by h m c (core s)
  core-by true true c s = refl
  core-by true false c s = refl
  core-by false true c s = refl
  core-by false false c s = refl

  pub core-shelve : (c : Certificate R (List ℕ)) (s : State S R) → core (shelve c s) ≡ shelved c s.spoiled (core s)
  core-shelve c s = core-by (here s c.block) (commits s c.block) c s

module _ {R : Type 0} where
  -- the certificate is sent: written, or the message handed in is passed on
  abbrev pub CertificateSent : Parts R (List ℕ) → Certificate R (List ℕ) → Option (Sending R) → Type 0
  CertificateSent m c x = (x ≡ Some (write (Certified c))) ⊎ ((x ≡ Some relay) × (m ≡ Certified c))

  -- so is the notice of a view
  abbrev pub NoticeSent : Parts R (List ℕ) → ℕ → Option (Sending R) → Type 0
  NoticeSent m v x = (mask : ℕ) × (seals : List ℕ) × ((x ≡ Some (write (Notice v mask seals))) ⊎ ((x ≡ Some relay) × (m ≡ Notice v mask seals)))

  one_up_lem : (h : ℕ) (o : Option (Block R)) → one_up h o ≡ true → (p : Block R) × (o ≡ Some p) × (p.height + 1 ≡ h)
  one_up_lem h None e = absurd (false≢true e)
  one_up_lem h (Some p) e = (p, refl, eqb-true (p.height + 1) h e)

  -- the test of a parent finds it
  pub parent-from_test : (bs : List (Block R)) (b : Block R) → parent_there bs b ≡ true → (b.height ≡ 1) ⊎ ((p : Block R) × Parent bs b p)
  parent-from_test bs b e =
      elim (cases_Bool (eqb b.height 1)) [
        | inl t ↦ inl (eqb-true b.height 1 t)
        | inr f ↦
            let u = one_up_lem b.height (find b.parent bs) (sym (cond-false _ _ _ f) ∙ e) in
            inr (u.0, (u.1, u.2))
      ]

module _ {L : ℕ} {R : Type 0} (k : Kind L R) where
  -- what a verdict says of the shelf
  abbrev pub Judged : List (Block R) → Block R → Verdict → Type 0
  Judged bs b Known = (x : Block R) × (find b.rank bs ≡ Some x) × (same_block k x b ≡ true)
  Judged bs b New = MayFollow bs b

  judged-last : (bs : List (Block R)) (b last : Block R) (r : Result (Option (Block R)) Refusal) → MayFollow bs b → Gives (is_last k last r) (Judged bs b)
  judged-last bs b last (Err e) m = gives_err (Judged bs b) e
  judged-last bs b last (Ok None) m = gives_err (Judged bs b) Fork
  judged-last bs b last (Ok (Some x)) m = gives_if (same_block k x last) (Ok New) Fork (λ _. gives_ok (Judged bs b) New m)

  judged-extends : (bs : List (Block R)) (b : Block R) (o : Option (Block R)) → MayFollow bs b → Gives (extends k bs o b) (Judged bs b)
  judged-extends bs b None m = gives_ok (Judged bs b) New m
  judged-extends bs b (Some last) m = judged-last bs b last (read_below bs (parent_of b) last.height) m

module _ {L S : ℕ} {R : Type 0} (k : Kind L R) where
  judged-found : (s : State S R) (bs : List (Block R)) (cells : ℕ) (b : Block R) (o : Option (Block R)) → find b.rank bs ≡ o →
      Gives (judge_found k s bs cells b o) (Judged k bs b)
  judged-found s bs cells b None e =
      gives_if (parent_there bs b) _ Orphan (λ up.
      gives_if (ltb (length bs) cells) _ Full (λ _.
      let m : MayFollow bs b = (e, parent-from_test bs b up) in
      gives_either (commits s b) _ _ (λ _. judged-extends k bs b s.committed m) (λ _. gives_ok (Judged k bs b) New m)))
  judged-found s bs cells b (Some x) e =
      gives_if (same_block k x b) _ Rival (λ t. gives_ok (Judged k bs b) Known (x, e, t))

  -- a block that is judged known is on the shelf; one that is judged new may be stored next
  pub judged : (s : State S R) (bs : List (Block R)) (cells : ℕ) (b : Block R) → Gives (judge_in k s bs cells b) (Judged k bs b)
  judged s bs cells b = judged-found s bs cells b (find b.rank bs) refl

  -- what a message does that is carried out: nothing to the core and the shelf; or a certificate is shelved and sent; or a view is left
  -- and its notice is sent (what follows from the layout of the message is said under the premise that it keeps it)
  pub data Effect (Kept : Type 0) (m : Parts R (List ℕ)) (s : State S R) (bs : List (Block R)) (o : Outcome S R) : Type 0 where
    stays : core o.state ≡ core s → o.blocks ≡ bs → Effect Kept m s bs o
    shelves : (c : Certificate R (List ℕ)) → (Kept → LawfulBlock k c.block) → MayFollow bs c.block → core o.state ≡ shelved c s.spoiled (core s) →
        o.blocks ≡ bs ++ (c.block ∷ []) → CertificateSent m c o.sends.certificate → Effect Kept m s bs o
    leaves : (v : ℕ) → (Kept → v < 65535) → ((s.view < v) ⊎ ((s.phase ≡ On) × (s.view ≡ v))) → core o.state ≡ left v (core s) →
        o.blocks ≡ bs → NoticeSent m v o.sends.message → Effect Kept m s bs o

  notice_effect : (Kept : Type 0) (s : State S R) (bs : List (Block R)) (v mask : ℕ) (seals : List ℕ) → (Kept → TwoBytes v) →
      Gives (notice s bs v) (Effect Kept (Notice v mask seals) s bs)
  notice_effect Kept s bs v mask seals small =
      gives_unless (eqb v last_view) _ LastView (λ l.
      let ne : v ≡ 65535 → ⊥ = eqb-false v last_view l in
      let lt : Kept → v < 65535 = λ l. let q = small l in omega arith in
      gives_either (ltb s.view v || (is_on s.phase && eqb s.view v)) _ _
      (λ lead. gives_ok (Effect Kept (Notice v mask seals) s bs) _
      (leaves v lt (leads s.phase s.view v lead) refl refl (mask, seals, inr (refl, refl))))
      (λ _. gives_ok (Effect Kept (Notice v mask seals) s bs) _ (stays refl refl)))
    where
      leads : (ph : Phase) (u v : ℕ) → (ltb u v || (is_on ph && eqb u v)) ≡ true → (u < v) ⊎ ((ph ≡ On) × (u ≡ v))
      leads ph u v e =
          elim (or_cases (ltb u v) _ e) [
            | inl l ↦ inl (ltb-true u v l)
            | inr l ↦
                let p = and_parts (is_on ph) (eqb u v) l in
                inr (on-from_test ph p.0, eqb-true u v p.1)
          ]

  blame_effect : (Kept : Type 0) (p : Terms) (s : State S R) (bs : List (Block R)) (i v : ℕ) (seal : List ℕ) → (Kept → TwoBytes v) →
      Gives (blame p s bs i v seal) (Effect Kept (Blame i v seal) s bs)
  blame_effect Kept p s bs i v seal small =
      gives_unless (eqb v last_view) _ LastView (λ l.
      let ne : v ≡ 65535 → ⊥ = eqb-false v last_view l in
      let lt : Kept → v < 65535 = λ l. let q = small l in omega arith in
      gives_either (is_on s.phase && (eqb s.view v && not (has_seal s.blames i))) _ _
      (λ t.
      let a = and_parts (is_on s.phase) _ t in
      let b = and_parts (eqb s.view v) _ a.1 in
      gives_ok (Effect Kept (Blame i v seal) s bs) _
      (cond_both (quorate p (add_seal s.blames i seal)) _ _ (Effect Kept (Blame i v seal) s bs)
      (λ _. leaves v lt (inr (on-from_test s.phase a.0, eqb-true s.view v b.0)) refl refl (_, _, inl refl))
      (λ _. stays refl refl)))
      (λ _. gives_ok (Effect Kept (Blame i v seal) s bs) _ (stays refl refl)))

  -- the tests and the sends of a proposal leave the core and the shelf as the parent's certificate left them
  abbrev Alike : Outcome S R → Outcome S R → Type 0
  Alike o x = (core x.state ≡ core o.state) × (x.blocks ≡ o.blocks) × (x.sends.certificate ≡ o.sends.certificate)

  accepts-alike : (o : Outcome S R) (rest : Word) (note : Note R) → Alike o (accepts o rest note)
  accepts-alike o rest note = cond_both _ _ _ (Alike o) (λ _. (refl, refl, refl)) (λ _. (refl, refl, refl))

  clashes-alike : (p : Terms) (o : Outcome S R) → Alike o (clashes p o)
  clashes-alike p o = cond_both _ _ _ (Alike o) (λ _. (refl, refl, refl)) (λ _. (refl, refl, refl))

  note-alike : (p : Terms) (o : Outcome S R) (b : Block R) (note : Option (Note R)) → Alike o (at_note k p o b note)
  note-alike p o b None = accepts-alike o Noted (record { block = b; accepted = None; voted = false })
  note-alike p o b (Some note) =
      cond_both (same_block k note.block b) (accepts o o.word note) (clashes p o) (Alike o)
      (λ _. accepts-alike o o.word note) (λ _. clashes-alike p o)

  proposed-alike : (p : Terms) (b : Block R) (o : Outcome S R) → Alike o (proposed k p b o)
  proposed-alike p b o =
      cond_both (slot_open o.state b) (at_note k p o b o.state.round.note) o (Alike o)
      (λ _. note-alike p o b o.state.round.note) (λ _. (refl, refl, refl))

  taken_effect : (Kept : Type 0) (m : Parts R (List ℕ)) (s : State S R) (bs : List (Block R)) (c : Certificate R (List ℕ)) (sending : Sending R) →
      (Kept → LawfulBlock k c.block) → CertificateSent m c (Some sending) → (v : Verdict) → Judged k bs c.block v →
      (x : Outcome S R) → Alike (taken s bs c sending v) x → Effect Kept m s bs x
  taken_effect Kept m s bs c sending lawful there Known j x a = stays a.0 a.1
  taken_effect Kept m s bs c sending lawful there New j x a =
      shelves c lawful j (a.0 ∙ core-shelve c s) a.1 (subst (CertificateSent m c) (sym a.2) there)

  certificate_effect : (Kept : Type 0) (s : State S R) (bs : List (Block R)) (cells : ℕ) (c : Certificate R (List ℕ)) → (Kept → LawfulBlock k c.block) →
      Gives (take_in k s bs cells c relay) (Effect Kept (Certified c) s bs)
  certificate_effect Kept s bs cells c lawful =
      gives_carried (Effect Kept (Certified c) s bs) (taken s bs c relay) (judge_in k s bs cells c.block) (λ v e.
      taken_effect Kept (Certified c) s bs c relay lawful (inr (refl, refl)) v (judged s bs cells c.block v e) _ (refl, refl, refl))

  proposal_effect : (Kept : Type 0) (p : Terms) (s : State S R) (bs : List (Block R)) (cells : ℕ) (b : Block R) (seal : List ℕ) (parent : Option (Certificate R (List ℕ))) →
      ((c : Certificate R (List ℕ)) → parent ≡ Some c → Kept → LawfulBlock k c.block) →
      Gives (proposal k p s bs cells b parent) (Effect Kept (Proposal b seal parent) s bs)
  proposal_effect Kept p s bs cells b seal None lawful =
      let a = proposed-alike p b (idle s bs) in
      gives_ok (Effect Kept (Proposal b seal None) s bs) _ (stays a.0 a.1)
  proposal_effect Kept p s bs cells b seal (Some c) lawful =
      let m : Parts R (List ℕ) = Proposal b seal (Some c) in
      gives_twice (Effect Kept m s bs) (taken s bs c (write (Certified c))) (proposed k p b) (judge_in k s bs cells c.block) (λ v e.
      taken_effect Kept m s bs c (write (Certified c)) (lawful c refl) (inl refl) v (judged s bs cells c.block v e) _
      (proposed-alike p b (taken s bs c (write (Certified c)) v)))

  completed_effect : (Kept : Type 0) (m : Parts R (List ℕ)) (s : State S R) (row : SealRow S) (bs : List (Block R)) (c : Certificate R (List ℕ)) →
      (Kept → LawfulBlock k c.block) → (v : Verdict) → Judged k bs c.block v → Effect Kept m s bs (completed (with_votes row s) bs c v)
  completed_effect Kept m s row bs c lawful Known j = stays refl refl
  completed_effect Kept m s row bs c lawful New j = shelves c lawful j (core-shelve c (with_votes row s)) refl (inl refl)

  vote_effect : (Kept : Type 0) (p : Terms) (s : State S R) (bs : List (Block R)) (cells i : ℕ) (b : Block R) (seal : List ℕ) → (Kept → LawfulBlock k b) →
      Gives (vote k p s bs cells i b seal) (Effect Kept (Vote i b seal) s bs)
  vote_effect Kept p s bs cells i b seal lawful =
      let m : Parts R (List ℕ) = Vote i b seal in
      let row : SealRow S = add_seal s.round.votes i seal in
      let t : State S R = with_votes row s in
      let c : Certificate R (List ℕ) = certificate_of b row in
      gives_either (countable k s i b) _ _
      (λ _. gives_either (quorate p row) _ _
      (λ _. gives_carried (Effect Kept m s bs) (completed t bs c) (judge_in k t bs cells b) (λ v e.
      completed_effect Kept m s row bs c lawful v (judged t bs cells b v e)))
      (λ _. gives_ok (Effect Kept m s bs) _ (stays refl refl)))
      (λ _. gives_ok (Effect Kept m s bs) _ (stays refl refl))

  -- whatever message is carried out
  pub message_effect : (p : Terms) (n : ℕ) (s : State S R) (bs : List (Block R)) (cells : ℕ) (m : Parts R (List ℕ)) →
      Gives (hand_parts k p s bs cells m) (Effect (LawfulParts k S n m) m s bs)
  message_effect p n s bs cells (Proposal b seal parent) =
      proposal_effect (LawfulParts k S n (Proposal b seal parent)) p s bs cells b seal parent (λ c e l. carries k S n b parent c e l.2)
  message_effect p n s bs cells (Vote i b seal) = vote_effect (LawfulParts k S n (Vote i b seal)) p s bs cells i b seal (λ l. l.1)
  message_effect p n s bs cells (Blame i v seal) = blame_effect (LawfulParts k S n (Blame i v seal)) p s bs i v seal (λ l. l.1)
  message_effect p n s bs cells (Certified c) = certificate_effect (LawfulParts k S n (Certified c)) s bs cells c (λ l. l.0)
  message_effect p n s bs cells (Notice v mask seals) = notice_effect (LawfulParts k S n (Notice v mask seals)) s bs v mask seals (λ l. l.0)

module _ {S : ℕ} {R : Type 0} (p : Terms) where
  -- what a tick does: the clock goes on, or a seat that has been leaving for 2D + 1 ticks enters the next view
  pub data TickEffect (s : State S R) (bs : List (Block R)) (o : Outcome S R) : Type 0 where
    goes : core o.state ≡ later (core s) → o.blocks ≡ bs →
        ((since : ℕ) → s.phase ≡ Leaving since → (s.now + 1) - since < 2 * p.delta + 1) → TickEffect s bs o
    arrives : (since : ℕ) → s.phase ≡ Leaving since → 2 * p.delta + 1 ≤ (s.now + 1) - since →
        core o.state ≡ arrived (min (s.view + 1) last_view) (turn_after (top_turn (min (s.view + 1) last_view) bs)) (core s) →
        o.blocks ≡ bs → TickEffect s bs o

  abbrev Ticks : State S R → List (Block R) → Outcome S R → Type 0
  Ticks s bs o = (core o.state ≡ core s) × (o.blocks ≡ bs)

  blames-ticks : (word : Word) (message : Option (Sending R)) (s : State S R) (bs : List (Block R)) → Ticks s bs (blames p word message s bs)
  blames-ticks word message s bs = cond_both _ _ _ (Ticks s bs) (λ _. (refl, refl)) (λ _. (refl, refl))

  on-ticks : (note : Option (Note R)) (s : State S R) (bs : List (Block R)) → Ticks s bs (on_tick p note s bs)
  on-ticks None s bs = blames-ticks Idle None s bs
  on-ticks (Some note) s bs =
      cond_both (vote_due p s note) (blames p Voted (Some (write (Vote p.own note.block (zero_seal S)))) (with_note (Some (voted_for note)) s) bs)
      (blames p Idle None s bs) (Ticks s bs)
      (λ _. blames-ticks Voted _ (with_note (Some (voted_for note)) s) bs) (λ _. blames-ticks Idle None s bs)

  entered-ticks : (s : State S R) (bs : List (Block R)) → Ticks s bs (entered p s bs)
  entered-ticks s bs = cond_both _ _ _ (Ticks s bs) (λ _. (refl, refl)) (λ _. (refl, refl))

  phase_effect : (ph : Phase) (s : State S R) (bs : List (Block R)) → s.phase ≡ ph →
      TickEffect s bs (ticked p ph (with_now (s.now + 1) s) bs)
  phase_effect On s bs e =
      let a = on-ticks s.round.note (with_now (s.now + 1) s) bs in
      goes a.0 a.1 (λ since f. absurd (on-leaving since (sym e ∙ f)))
  phase_effect (Leaving since) s bs e =
      let t : State S R = with_now (s.now + 1) s in
      let v : ℕ = min (s.view + 1) last_view in
      let u : State S R = enter v (turn_after (top_turn v bs)) t in
      let a = entered-ticks u bs in
      cond_both (leb (2 * p.delta + 1) ((s.now + 1) - since)) (entered p u bs) (idle t bs) (TickEffect s bs)
      (λ l. arrives since e (leb-true (2 * p.delta + 1) ((s.now + 1) - since) l) a.0 a.1)
      (λ l. goes refl refl (λ other f.
      let same : since ≡ other = cc in
      subst (λ x. (s.now + 1) - x < 2 * p.delta + 1) same (leb-false (2 * p.delta + 1) ((s.now + 1) - since) l)))

  pub tick_effect : (s : State S R) (bs : List (Block R)) → TickEffect s bs (tick_step p s bs)
  tick_effect s bs = phase_effect s.phase s bs refl

-- an offer leaves the core and the shelf as they are
module _ {L S : ℕ} {R : Type 0} (k : Kind L R) (p : Terms) (leader : ℕ → ℕ) where
  abbrev Offered : State S R → List (Block R) → Outcome S R → Type 0
  Offered s bs o = (core o.state ≡ core s) × (o.blocks ≡ bs)

  pub offer_effect : (s : State S R) (bs : List (Block R)) (content : List ℕ) → Gives (offer_step k p leader s bs content) (Offered s bs)
  offer_effect s bs content =
      gives_next {P = λ _. Unit {0}} {Q = Offered s bs} (read_content k content) _ (λ _ _. tt) (λ r _.
      gives_unless (not (eqb (leader s.view) p.own)) _ NotLeader (λ _.
      gives_unless (not (is_on s.phase)) _ OfferLeaving (λ _.
      gives_unless s.spoiled _ OfferSpoiled (λ _.
      gives_unless s.round.offered _ OfferedAlready (λ _.
      gives_unless (ltb last_turn s.turn || ltb last_height (next_height s.best)) _ NoPlaceLeft (λ _.
      gives_unless (too_soon p s) _ OfferTooSoon (λ _.
      gives_if (can_carry s.view s.turn s.best) _ NoLawfulParent (λ _.
      gives_ok (Offered s bs) _ (refl, refl)))))))))
