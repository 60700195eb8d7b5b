-- Sound seats vote for one block a rank, and have the parent of every block that was voted for.
use Rattle.std.proofs.Common.{◌≡◌, ℕ, ◌+◌, ◌*◌, ◌<◌, ◌≤◌, true, List, ◌∷◌, sym, ap, ◌∙◌, subst, inl, inr, arith}
use Rattle.std.proofs.lemmas.Bool.{cases_lt}
use Rattle.content.specs.Kinds.{Kind}
use Rattle.content.specs.declared.refusal.Refusal.TheVariants.{Orphan, Rival, Fork}
use Rattle.blocks.specs.declared.block.Block.{Block}
use Rattle.blocks.specs.declared.block.Rank.{Rank}
use Rattle.wire.specs.Lawful.{LawfulBlock}
use Rattle.wire.specs.Layout.{lawful_numbers}
use Rattle.agreement.specs.History.{Always, Event, History, Refused, clock}
use Rattle.agreement.specs.Run.{Hands, Run}
use Rattle.agreement.specs.Setting.{Lawful, Setting, Sound}
use Rattle.agreement.specs.Laws.{AsCertificate, Earlier, OnShelf, ParentOn, SendsSome, Voted, VotesFor, shelf, stage, state}
use Rattle.agreement.proofs.Facts.{Acceptance, Ballot, Primed, SeatFacts}
use Rattle.agreement.proofs.Moments.{always_at, always_earlier, cases_earlier, cases_last, earlier_before, earlier_trans, run_earlier, was-later}
use Rattle.agreement.proofs.Delivery.{clocks_close, delivered, handed-alike}
use Rattle.agreement.proofs.Sync.{certificate-handed, proposal-handed, sync_far, sync_near}

-- the numbers of a lawful block: at a later turn it stands on a block of its own view, one turn before
pub later-turn : (view turn height pview pturn : ℕ) → lawful_numbers view turn height pview pturn ≡ true → 0 < turn →
    (1 < height) × (pview ≡ view) × (pturn + 1 ≡ turn)
later-turn view turn height pview pturn e l = grind arith

module _ {L : ℕ} {R : Type 0} (S : ℕ) (k : Kind L R) (w : Setting) where
  -- no certificate was refused for want of its parent, for a rival, or for a fork
  abbrev pub CleanAt : Event → History → Type 0
  CleanAt e h = (Refused S k w Orphan e h → ⊥) × (Refused S k w Rival e h → ⊥) × (Refused S k w Fork e h → ⊥)

  abbrev pub Clean : History → Type 0
  Clean h = Always CleanAt h

  pub clean_earlier : (p h : History) → Earlier p h → Clean h → Clean p
  clean_earlier p h s clean = always_earlier CleanAt p h s clean

  -- what was voted for before was voted for
  pub voted-later : (b : Block R) (p h : History) → Earlier p h → Voted S k w b p → Voted S k w b h
  voted-later b p h s v = was-later (λ e p. Sound w e.who × VotesFor S k w b e p) p h s v

  -- a note accepted before, as a moment
  accepted-before : (b : Block R) (e : Event) (p h : History) → Earlier (e ∷ p) h → (v : Ballot S k w b e p) →
      (x : Event) × (r : History) × Earlier (x ∷ r) h × Earlier (x ∷ r) p × Acceptance S k w e.who v.accepted b x r
  accepted-before b e p h s v =
      let (q, x, r, place, a) = v.acceptance in
      (x, r, earlier_trans (x ∷ r) p h (q, place) (earlier_before e p h s), (q, place), a)

module _ {L : ℕ} {R : Type 0} (S : ℕ) (k : Kind L R) (w : Setting) (lawful : Lawful w) (f : SeatFacts S k w) where
  -- a certificate that a sound seat sent is on every sound shelf, and was before the clock of any sound seat was past its tick and delta
  pub shelved_everywhere : (b : Block R) (e : Event) (p h : History) (l j : ℕ) → Run S k w h → Clean S k w h → Earlier (e ∷ p) h →
      SendsSome S k w (AsCertificate S k w b) e p → Sound w l → Sound w j → clock S k w e.who (e ∷ p) + w.delta < clock S k w l h →
      (g : History) × Earlier g h × OnShelf b (shelf S k w j g) × (clock S k w j g ≤ clock S k w e.who (e ∷ p) + w.delta)
  shelved_everywhere b e p h l j run clean s (m, sends, reads) sl sj late =
      let d = delivered S k w f e p h m l j run s sends sl sj late in
      let (c, of, good) = certificate-handed S k w b m d.at reads d.hands in
      let (orphan, rival, fork) = always_at (CleanAt S k w) d.at d.past h d.before clean in
      let there : OnShelf c.block (shelf S k w d.at.who (d.at ∷ d.past)) =
      f.certificate-carried d.at d.past c (run_earlier S k w (d.at ∷ d.past) h d.before run) good orphan rival fork in
      (d.at ∷ d.past, d.before, subst (λ z. OnShelf z (shelf S k w j (d.at ∷ d.past))) of (subst (λ z. OnShelf c.block (shelf S k w z (d.at ∷ d.past))) d.mine there), d.by)

  -- at a later turn, a seat that was passed the proposal is on in its view, or past it
  turn_reached : (b : Block R) (i a j : ℕ) (x : Event) (r g : History) (m : List ℕ) (y : Event) → Run S k w (y ∷ g) → LawfulBlock k b → Acceptance S k w i a b x r →
      Sound w i → Sound w j → Earlier (x ∷ r) g → Hands S k w m y.what → 0 < b.rank.turn → 2 * b.rank.view ≤ stage (state S k w j g)
  turn_reached b i a j x r g m y run law acc si sj s hands later =
      let (tall, same_view, _) = later-turn b.rank.view b.rank.turn b.height b.parent.view b.parent.turn law.numbers later in
      elim acc.parent_there_lem [
        | inl one ↦ absurd (omega arith)
        | inr (c, on, rank, _) ↦
            let run_r : Run S k w (x ∷ r) = run_earlier S k w (x ∷ r) g s run.1 in
            let (q, e, p, place, (sl, votes)) = f.shelved-voted i (x ∷ r) c si run_r on in
            let there : Earlier (e ∷ p) g = earlier_trans (e ∷ p) (x ∷ r) g (q, place) s in
            let ballot = f.ballot e p c (run_earlier S k w (e ∷ p) g there run.1) votes in
            let (x', r', place', _, acc') = accepted-before S k w c e p g there ballot in
            let view : c.rank.view ≡ b.rank.view = ap (λ (z : Rank). z.view) rank ∙ same_view in
            let at : clock S k w e.who (x' ∷ r') ≡ ballot.accepted = acc'.at_tick in
            let waited : ballot.accepted + (w.delta + 1) ≤ clock S k w e.who (e ∷ p) = ballot.waited in
            let up : clock S k w e.who (e ∷ p) ≤ clock S k w e.who g = f.clock_rises e.who (e ∷ p) g there in
            let alike : clock S k w e.who g ≡ clock S k w j g = handed-alike S k w f m y g run hands e.who j sl sj in
            subst (λ z. 2 * z ≤ stage (state S k w j g)) view
            (sync_far S k w f e.who j c.rank.view (x' ∷ r') g run.1 place' sl sj acc'.on_after (omega arith))
      ]

  -- a proposal that a sound seat accepted in tick a has primed every sound seat that is past tick a + delta
  pub primed_everywhere : (b : Block R) (i a j : ℕ) (x : Event) (r h : History) → Run S k w h → Clean S k w h → LawfulBlock k b → Acceptance S k w i a b x r →
      Earlier (x ∷ r) h → Sound w i → Sound w j → a + w.delta < clock S k w j h →
      (g : History) × Earlier g h × Primed b (state S k w j g) × (clock S k w j g ≤ a + w.delta)
  primed_everywhere b i a j x r h run clean law acc s si sj late =
      let (m, sends, reads) = acc.relays in
      let tick : clock S k w x.who (x ∷ r) ≡ a = ap (λ z. clock S k w z (x ∷ r)) acc.mine ∙ acc.at_tick in
      let d = delivered S k w f x r h m j j run s sends sj sj (omega arith) in
      let by : clock S k w j (d.at ∷ d.past) ≤ clock S k w x.who (x ∷ r) + w.delta = d.by in
      let (seal, parent, good) = proposal-handed S k w b m d.at reads d.hands in
      let (orphan, rival, fork) = always_at (CleanAt S k w) d.at d.past h d.before clean in
      let run_d : Run S k w (d.at ∷ d.past) = run_earlier S k w (d.at ∷ d.past) h d.before run in
      let near-x : 2 * b.rank.view ≤ stage (state S k w j (x ∷ r)) + 1 =
      sync_near S k w f i j b.rank.view (x ∷ r) (run_earlier S k w (x ∷ r) h s run) si sj acc.on_after in
      let up : stage (state S k w j (x ∷ r)) ≤ stage (state S k w j d.past) = f.stage_rises j (x ∷ r) d.past sj run_d.1 d.after in
      let near : 2 * b.rank.view ≤ stage (state S k w j d.past) + 1 = omega arith in
      let far : 0 < b.rank.turn → 2 * b.rank.view ≤ stage (state S k w j d.past) =
      turn_reached b i a j x r d.past m d.at run_d law acc si sj d.after d.hands in
      let back = sym d.mine in
      let primed : Primed b (state S k w d.at.who (d.at ∷ d.past)) =
      f.proposal-carried d.at d.past b seal parent run_d good orphan rival fork
      (subst (λ z. 2 * b.rank.view ≤ stage (state S k w z d.past) + 1) back near)
      (subst (λ z. 0 < b.rank.turn → 2 * b.rank.view ≤ stage (state S k w z d.past)) back far) in
      (d.at ∷ d.past, d.before, subst (λ z. Primed b (state S k w z (d.at ∷ d.past))) d.mine primed, omega arith)

  -- the seat that accepted earlier decides what the other can vote for
  one-vote : (b c : Block R) (e e' : Event) (p p' h : History) → Run S k w h → Clean S k w h → Earlier (e ∷ p) h → Earlier (e' ∷ p') h →
      Sound w e.who → Sound w e'.who → (v : Ballot S k w b e p) → (v' : Ballot S k w c e' p') → VotesFor S k w c e' p' →
      v.accepted ≤ v'.accepted → c.rank ≡ b.rank → c ≡ b
  one-vote b c e e' p p' h run clean s s' si sj v v' votes first same =
      let (x, r, place, _, acc) = accepted-before S k w b e p h s v in
      let j = e'.who in
      let run' : Run S k w (e' ∷ p') = run_earlier S k w (e' ∷ p') h s' run in
      let at : clock S k w e.who (x ∷ r) ≡ v.accepted = acc.at_tick in
      let waited : v'.accepted + (w.delta + 1) ≤ clock S k w j (e' ∷ p') = v'.waited in
      let some : 1 ≤ w.delta = lawful.some_delta in
      let before : Earlier (x ∷ r) (e' ∷ p') =
      elim (cases_earlier (x ∷ r) (e' ∷ p') h place s') [
        | inl b ↦ b
        | inr a ↦
            let close : clock S k w j (x ∷ r) ≤ clock S k w e.who (x ∷ r) + 1 =
            clocks_close S k w f (x ∷ r) j e.who (run_earlier S k w (x ∷ r) h place run) sj si in
            let up : clock S k w j (e' ∷ p') ≤ clock S k w j (x ∷ r) = f.clock_rises j (e' ∷ p') (x ∷ r) a in
            absurd (omega arith)
      ] in
      let (g, past, primed, by) = primed_everywhere b e.who v.accepted j x r (e' ∷ p') run' (clean_earlier S k w (e' ∷ p') h s' clean) v.lawful acc before si sj (omega arith) in
      let by' : clock S k w j g ≤ v.accepted + w.delta = by in
      elim (cases_last g p' e' past) [
        | inl is ↦
            let tick : clock S k w j (e' ∷ p') ≡ clock S k w j g = ap (clock S k w j) is in
            absurd (omega arith)
        | inr old ↦ f.primed_votes e' p' b c run' v.lawful (f.primed-stays j g p' b sj run'.1 v.lawful old primed) votes same
      ]

  -- sound seats vote for one block a rank
  pub one-block-a-rank : (b c : Block R) (h : History) → Run S k w h → Clean S k w h → Voted S k w b h → Voted S k w c h → b.rank ≡ c.rank → b ≡ c
  one-block-a-rank b c h run clean (q, e, p, place, (si, votes)) (q', e', p', place', (sj, votes')) same =
      let s : Earlier (e ∷ p) h = (q, place) in
      let s' : Earlier (e' ∷ p') h = (q', place') in
      let v = f.ballot e p b (run_earlier S k w (e ∷ p) h s run) votes in
      let v' = f.ballot e' p' c (run_earlier S k w (e' ∷ p') h s' run) votes' in
      elim (cases_lt v.accepted v'.accepted) [
        | inl l ↦ sym (one-vote b c e e' p p' h run clean s s' si sj v v' votes' (omega arith) (sym same))
        | inr l ↦ one-vote c b e' e p' p h run clean s' s sj si v' v votes l same
      ]

  -- the parent of a block that was voted for is on every sound shelf
  pub parent_everywhere : (b : Block R) (j : ℕ) (h : History) → Run S k w h → Clean S k w h → Sound w j → Voted S k w b h → ParentOn S k w b (shelf S k w j h)
  parent_everywhere b j h run clean sj (q, e, p, place, (si, votes)) =
      let s : Earlier (e ∷ p) h = (q, place) in
      let v = f.ballot e p b (run_earlier S k w (e ∷ p) h s run) votes in
      let (x, r, there, _, acc) = accepted-before S k w b e p h s v in
      elim acc.parent_there_lem [
        | inl one ↦ inl one
        | inr (c, on, rank, height) ↦
            let (q', y, z, place', (mine, _, sends)) = f.shelved-sent e.who (x ∷ r) c si (run_earlier S k w (x ∷ r) h there run) on in
            let tick : clock S k w y.who (y ∷ z) ≡ clock S k w e.who (y ∷ z) = ap (λ i. clock S k w i (y ∷ z)) mine in
            let at : clock S k w e.who (x ∷ r) ≡ v.accepted = acc.at_tick in
            let up : clock S k w e.who (y ∷ z) ≤ clock S k w e.who (x ∷ r) = f.clock_rises e.who (y ∷ z) (x ∷ r) (q', place') in
            let waited : v.accepted + (w.delta + 1) ≤ clock S k w e.who (e ∷ p) = v.waited in
            let up' : clock S k w e.who (e ∷ p) ≤ clock S k w e.who h = f.clock_rises e.who (e ∷ p) h s in
            let (g, past, shelved, _) = shelved_everywhere c y z h e.who j run clean (earlier_trans (y ∷ z) (x ∷ r) h (q', place') there) sends si sj (omega arith) in
            inr (c, f.shelf_grows j g h c past shelved, rank, height)
      ]
