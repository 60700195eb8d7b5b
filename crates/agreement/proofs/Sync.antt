-- Sound seats change views together.
use Rattle.std.proofs.Common.{◌≡◌, ℕ, zero, suc, ◌+◌, ◌*◌, ◌≤◌, cond, List, ◌∷◌, Option, sym, refl, ap, ◌∙◌, subst, inl, inr, arith}
use Rattle.std.proofs.lemmas.Bool.{cases_lt}
use Rattle.content.specs.Kinds.{Kind}
use Rattle.blocks.specs.declared.block.Block.{Block}
use Rattle.wire.specs.declared.message.Certificate.{Certificate}
use Rattle.wire.specs.declared.message.Parts.{Parts}
use Rattle.wire.specs.declared.message.Parts.TheVariants.{Proposal, Vote, Blame, Certified, Notice}
use Rattle.state.specs.Parts.{is_on}
use Rattle.state.specs.declared.state.Phase.{Phase}
use Rattle.state.specs.declared.state.Phase.TheVariants.{On, Leaving}
use Rattle.state.specs.declared.state.State.{State}
use Rattle.agreement.specs.History.{Call, Event, History, clock, hand, inbox_of, offer, sent, tick}
use Rattle.agreement.specs.Run.{Hands, Run, Sealed, bare, bare_body}
use Rattle.agreement.specs.Setting.{Setting, Sound}
use Rattle.agreement.specs.Laws.{AsCertificate, Earlier, stage, state}
use Rattle.agreement.proofs.Facts.{AsNotice, AsProposal, GoodMessage, OnIn, SeatFacts}
use Rattle.agreement.proofs.Moments.{earlier_trans, run_earlier}
use Rattle.agreement.proofs.Delivery.{delivered}

module _ {R : Type 0} where
  -- messages that are alike apart from their seals
  bare-notice : (v mask : ℕ) (seals : List ℕ) (y : Parts R (List ℕ)) → bare (Notice v mask seals) ≡ bare y → (seals' : List ℕ) × (y ≡ Notice v mask seals')
  bare-notice v mask seals (Proposal b seal parent) e = let z : ◌≡◌ {A = ℕ} 0 1 = cc in absurd (omega arith)
  bare-notice v mask seals (Vote i b seal) e = let z : ◌≡◌ {A = ℕ} 0 1 = cc in absurd (omega arith)
  bare-notice v mask seals (Blame i view seal) e = let z : ◌≡◌ {A = ℕ} 0 1 = cc in absurd (omega arith)
  bare-notice v mask seals (Certified c) e = let z : ◌≡◌ {A = ℕ} 0 1 = cc in absurd (omega arith)
  bare-notice v mask seals (Notice view mask' seals') e = (seals', cc)

  bare-proposal : (b : Block R) (seal : List ℕ) (parent : Option (Certificate R (List ℕ))) (y : Parts R (List ℕ)) → bare (Proposal b seal parent) ≡ bare y →
      (seal' : List ℕ) × (parent' : Option (Certificate R (List ℕ))) × (y ≡ Proposal b seal' parent')
  bare-proposal b seal parent (Proposal b' seal' parent') e = (seal', parent', cc)
  bare-proposal b seal parent (Vote i b' seal') e = let z : ◌≡◌ {A = ℕ} 0 1 = cc in absurd (omega arith)
  bare-proposal b seal parent (Blame i view seal') e = let z : ◌≡◌ {A = ℕ} 0 1 = cc in absurd (omega arith)
  bare-proposal b seal parent (Certified c) e = let z : ◌≡◌ {A = ℕ} 0 1 = cc in absurd (omega arith)
  bare-proposal b seal parent (Notice view mask seals) e = let z : ◌≡◌ {A = ℕ} 0 1 = cc in absurd (omega arith)

  certified_same : (c d : Certificate R (List ℕ)) → ◌≡◌ {A = Parts R (List ℕ)} (Certified c) (Certified d) → c ≡ d
  certified_same c d e = cc

  bare_body_lem : (c d : Certificate R (List ℕ)) → bare (Certified c) ≡ bare (Certified d) → c.block ≡ d.block
  bare_body_lem c d e = ap (λ (x : Certificate R (List ℕ)). x.block) (certified_same (bare_body c) (bare_body d) e)

  bare-certificate : (c : Certificate R (List ℕ)) (y : Parts R (List ℕ)) → bare (Certified c) ≡ bare y → (d : Certificate R (List ℕ)) × (d.block ≡ c.block) × (y ≡ Certified d)
  bare-certificate c (Proposal b seal parent) e = let z : ◌≡◌ {A = ℕ} 0 1 = cc in absurd (omega arith)
  bare-certificate c (Vote i b seal) e = let z : ◌≡◌ {A = ℕ} 0 1 = cc in absurd (omega arith)
  bare-certificate c (Blame i view seal) e = let z : ◌≡◌ {A = ℕ} 0 1 = cc in absurd (omega arith)
  bare-certificate c (Certified d) e = (d, sym (bare_body_lem c d e), refl)
  bare-certificate c (Notice view mask seals) e = let z : ◌≡◌ {A = ℕ} 0 1 = cc in absurd (omega arith)

module _ {L : ℕ} {R : Type 0} (S : ℕ) (k : Kind L R) (w : Setting) where
  -- what a call hands in, sealed, reads like the item, with good seals
  sealed_in : (m : List ℕ) (e : Event) (c : Call) → c ≡ e.what → Hands S k w m c → Sealed S k w m (inbox_of e.what)
  sealed_in m e (hand inbox room) s a = subst (λ z. Sealed S k w m (inbox_of z)) s a
  sealed_in m e (tick room) s a = absurd a
  sealed_in m e (offer content room) s a = absurd a
  sealed_in m e sent s a = absurd a

  pub notice-handed : (v : ℕ) (m : List ℕ) (e : Event) → AsNotice S k w v m → Hands S k w m e.what →
      (mask : ℕ) × (seals : List ℕ) × GoodMessage S k w (Notice v mask seals) e
  notice-handed v m e read a =
      let s = sealed_in m e e.what refl a in
      let (mask, seals, is) = read s.sent_as s.item_reads in
      let (seals', came) = bare-notice v mask seals s.came_as (ap bare (sym is) ∙ s.alike) in
      (mask, seals', subst (λ x. GoodMessage S k w x e) came (s.inbox_reads, s.good_seals))

  pub proposal-handed : (b : Block R) (m : List ℕ) (e : Event) → AsProposal S k w b m → Hands S k w m e.what →
      (seal : List ℕ) × (parent : Option (Certificate R (List ℕ))) × GoodMessage S k w (Proposal b seal parent) e
  proposal-handed b m e read a =
      let s = sealed_in m e e.what refl a in
      let (seal, parent, is) = read s.sent_as s.item_reads in
      let (seal', parent', came) = bare-proposal b seal parent s.came_as (ap bare (sym is) ∙ s.alike) in
      (seal', parent', subst (λ x. GoodMessage S k w x e) came (s.inbox_reads, s.good_seals))

  pub certificate-handed : (b : Block R) (m : List ℕ) (e : Event) → AsCertificate S k w b m → Hands S k w m e.what →
      (c : Certificate R (List ℕ)) × (c.block ≡ b) × GoodMessage S k w (Certified c) e
  certificate-handed b m e read a =
      let s = sealed_in m e e.what refl a in
      let (c, of, is) = read s.sent_as s.item_reads in
      let (d, same, came) = bare-certificate c s.came_as (ap bare (sym is) ∙ s.alike) in
      (d, same ∙ of, subst (λ x. GoodMessage S k w x e) came (s.inbox_reads, s.good_seals))

module _ {S : ℕ} {R : Type 0} where
  -- an odd stage is one of leaving
  stage-odd : (s : State S R) (u : ℕ) (ph : Phase) → ph ≡ s.phase → stage s ≡ 2 * u + 1 → (since : ℕ) × (s.phase ≡ Leaving since)
  stage-odd s u On e odd =
      let even : 2 * s.view ≡ 2 * u + 1 = subst (λ z. cond (is_on z) (2 * s.view) (2 * s.view + 1) ≡ 2 * u + 1) (sym e) odd in
      absurd (omega arith)
  stage-odd s u (Leaving since) e odd = (since, sym e)

  -- the stage of a seat that is on
  pub stage-on : (s : State S R) (v : ℕ) → s.phase ≡ On → s.view ≡ v → stage s ≡ 2 * v
  stage-on s v on view = ap (λ z. cond (is_on z) (2 * s.view) (2 * s.view + 1)) on ∙ ap (λ z. 2 * z) view

module _ {L : ℕ} {R : Type 0} (S : ℕ) (k : Kind L R) (w : Setting) (f : SeatFacts S k w) where
  -- the notice that ended the view before: i entered its view at the moment `entered`, and before that j had left the view before, at the moment `heard`
  pub record Warning (i j u : ℕ) (h : History) : Type 0 where
    pub entered : History
    pub heard : History
    pub in_time_lem : clock S k w j heard + (w.delta + 1) ≤ clock S k w i entered
    pub first : Earlier heard entered
    pub then : Earlier entered h
    pub left : 2 * u + 1 ≤ stage (state S k w j heard)
    pub on_after : OnIn S k w i (suc u) entered

  pub warned : (i j u : ℕ) (h : History) → Run S k w h → Sound w i → Sound w j → OnIn S k w i (suc u) h → Warning i j u h
  warned i j u h run si sj on =
      let (few, (q, e, p, place, entry)) = f.entry i u h si run on in
      let (q', x, r, place', (mine, (m, sends, reads), late)) = entry.notice in
      let there : Earlier (e ∷ p) h = (q, place) in
      let sent-there : Earlier (x ∷ r) (e ∷ p) = (e ∷ q', ap (λ z. e ∷ z) place') in
      let run_there : Run S k w (e ∷ p) = run_earlier S k w (e ∷ p) h there run in
      let same : clock S k w x.who (x ∷ r) ≡ clock S k w i (x ∷ r) = ap (λ z. clock S k w z (x ∷ r)) mine in
      let late' : clock S k w i (x ∷ r) + (2 * w.delta + 1) ≡ clock S k w i (e ∷ p) = late in
      let d = delivered S k w f x r (e ∷ p) m i j run_there sent-there sends si sj (omega arith) in
      let (mask, seals, good) = notice-handed S k w u m d.at reads d.hands in
      let low : clock S k w j (d.at ∷ d.past) ≤ clock S k w x.who (x ∷ r) + w.delta = d.by in
      let carried : 2 * u + 1 ≤ stage (state S k w d.at.who (d.at ∷ d.past)) =
      f.notice-carried d.at d.past u mask seals (run_earlier S k w (d.at ∷ d.past) (e ∷ p) d.before run_there) good (omega arith) in
      record {
        entered = e ∷ p;
        heard = d.at ∷ d.past;
        in_time_lem = omega arith;
        first = d.before;
        then = there;
        left = subst (λ z. 2 * u + 1 ≤ stage (state S k w z (d.at ∷ d.past))) d.mine carried;
        on_after = entry.on_after;
      }

  -- once a sound seat is on in a view, every sound seat has left the views before the last one before it
  pub sync_near : (i j v : ℕ) (h : History) → Run S k w h → Sound w i → Sound w j → OnIn S k w i v h → 2 * v ≤ stage (state S k w j h) + 1
  sync_near i j zero h run si sj on = omega arith
  sync_near i j (suc u) h run si sj on =
      let a = warned i j u h run si sj on in
      let up : stage (state S k w j a.heard) ≤ stage (state S k w j h) =
      f.stage_rises j a.heard h sj run (earlier_trans a.heard a.entered h a.first a.then) in
      let left : 2 * u + 1 ≤ stage (state S k w j a.heard) = a.left in
      omega arith

  -- and delta ticks later every sound seat is past the view before it
  pub sync_far : (i j v : ℕ) (g h : History) → Run S k w h → Earlier g h → Sound w i → Sound w j → OnIn S k w i v g →
      clock S k w i g + w.delta ≤ clock S k w j h → 2 * v ≤ stage (state S k w j h)
  sync_far i j zero g h run s si sj on late = omega arith
  sync_far i j (suc u) g h run s si sj on late =
      let a = warned i j u g (run_earlier S k w g h s run) si sj on in
      let past : Earlier a.heard h = earlier_trans a.heard g h (earlier_trans a.heard a.entered g a.first a.then) s in
      let up : stage (state S k w j a.heard) ≤ stage (state S k w j h) = f.stage_rises j a.heard h sj run past in
      let left : 2 * u + 1 ≤ stage (state S k w j a.heard) = a.left in
      let in_time_lem : clock S k w j a.heard + (w.delta + 1) ≤ clock S k w i a.entered = a.in_time_lem in
      let went : clock S k w i a.entered ≤ clock S k w i g = f.clock_rises i a.entered g a.then in
      elim (cases_lt (stage (state S k w j h)) (2 * suc u)) [
        | inr far ↦ far
        | inl near ↦
            let at : stage (state S k w j h) ≡ 2 * u + 1 = omega arith in
            let still : stage (state S k w j a.heard) ≡ stage (state S k w j h) = omega arith in
            let (since, leaving) = stage-odd (state S k w j h) u (state S k w j h).phase refl at in
            let began : since ≤ clock S k w j a.heard = f.leaving-began j since a.heard h sj run past still leaving in
            let (_, short) = f.leaving-short j since h sj run leaving in
            let short' : clock S k w j h ≤ since + 2 * w.delta = short in
            absurd (omega arith)
      ]
