-- A certificate that was taken in, sent as it came or written.
use Rattle.std.proofs.Common.{◌≡◌, ℕ, ◌≤◌, true, false, List, is_some, Some, None, Ok, Err, Option, Result, sym, ap, ◌∙◌, arith}
use Rattle.content.specs.Kinds.{Kind}
use Rattle.content.specs.declared.refusal.Refusal.{Refusal}
use Rattle.blocks.specs.declared.block.Block.{Block}
use Rattle.wire.specs.declared.message.Certificate.{Certificate}
use Rattle.wire.specs.declared.message.Parts.{Parts}
use Rattle.state.specs.Does.{Does}
use Rattle.state.specs.HandIn.{carried, idle, taken}
use Rattle.state.specs.Sends.{answer_of, end_of, item_at, put_item, relay, write}
use Rattle.state.specs.TakeIn.{height_of}
use Rattle.state.specs.declared.answer.Answer.{Answer}
use Rattle.state.specs.declared.answer.Item.{Item}
use Rattle.state.specs.declared.answer.Word.TheVariants.{Certified as SaysCertified}
use Rattle.state.specs.declared.state.State.{State}
use Rattle.state.specs.declared.taking.Verdict.{Verdict}
use Rattle.state.specs.declared.taking.Verdict.TheVariants.{Known, New}

ok-is : {X E : Type 0} {x y : X} → ◌≡◌ {A = Result X E} (Ok x) (Ok y) → x ≡ y
ok-is e = cc

-- an item that is not there ends at the start
pub quiet_end : (item : Option Item) (n : ℕ) → is_some item ≡ false → end_of item ≤ n
quiet_end None n h = omega arith
quiet_end (Some x) n h = absurd (differ h)
  where
    differ : true ≡ false → ⊥
    differ e = let z : ◌≡◌ {A = ℕ} 0 1 = cc in omega arith

module _ {L S : ℕ} {R : Type 0} (k : Kind L R) (s : State S R) (bs : List (Block R)) (c : Certificate R (List ℕ)) (m : Parts R (List ℕ))
    {out : List ℕ} {s' : State S R} {bs' : List (Block R)} {out' : List ℕ} where
  -- a certificate that is refused is refused however it would be sent
  pub refused-alike : (v : Result Verdict Refusal) (e : Refusal) → Does k (carried (taken s bs c relay) v) s bs out (Err e) s' bs' out' →
      Does k (carried (taken s bs c (write m)) v) s bs out (Err e) s' bs' out'
  refused-alike (Err x) e h = record { answer = h.answer; state = h.state; blocks = h.blocks; outbox = h.outbox }
  refused-alike (Ok v) e h = absurd (let z : ◌≡◌ {A = ℕ} 0 1 = cc h.answer in omega arith)

  -- a known one is not sent
  pub known-alike : (v : Result Verdict Refusal) (a : Answer) → is_some a.certificate ≡ false → Does k (carried (taken s bs c relay) v) s bs out (Ok a) s' bs' out' →
      Does k (carried (taken s bs c (write m)) v) s bs out (Ok a) s' bs' out'
  known-alike (Err x) a n h = absurd (let z : ◌≡◌ {A = ℕ} 0 1 = cc h.answer in omega arith)
  known-alike (Ok Known) a n h = record { answer = h.answer; state = h.state; blocks = h.blocks; outbox = h.outbox }
  known-alike (Ok New) a n h =
      let e : a ≡ answer_of k (taken s bs c relay New) = ok-is h.answer in
      absurd (differ (sym (ap (λ (x : Answer). is_some x.certificate) e) ∙ n))
    where
      differ : true ≡ false → ⊥
      differ e = let z : ◌≡◌ {A = ℕ} 0 1 = cc in omega arith

  -- a new one is written
  pub new-written : (v : Result Verdict Refusal) (a : Answer) (item : Item) (out2 : List ℕ) → is_some a.certificate ≡ true →
      Some item ≡ item_at k 0 (Some (write m)) → out2 ≡ put_item k 0 (Some (write m)) out' →
      Does k (carried (taken s bs c relay) v) s bs out (Ok a) s' bs' out' →
      Does k (carried (taken s bs c (write m)) v) s bs out (Ok (record { word = a.word; height = a.height; certificate = Some item; message = a.message; blame = a.blame })) s' bs' out2
  new-written (Err x) a item out2 n ei eo h = absurd (let z : ◌≡◌ {A = ℕ} 0 1 = cc h.answer in omega arith)
  new-written (Ok Known) a item out2 n ei eo h =
      let e : a ≡ answer_of k (idle s bs) = ok-is h.answer in
      absurd (differ (sym (ap (λ (x : Answer). is_some x.certificate) e) ∙ n))
    where
      differ : false ≡ true → ⊥
      differ e = let z : ◌≡◌ {A = ℕ} 0 1 = cc in omega arith
  new-written (Ok New) a item out2 n ei eo h =
      let e : a ≡ answer_of k (taken s bs c relay New) = ok-is h.answer in
      record {
        answer =
            ap (λ (x : Answer). Ok (record { word = x.word; height = x.height; certificate = Some item; message = x.message; blame = x.blame })) e
            ∙ ap (λ (i : Option Item). Ok (record { word = SaysCertified; height = height_of s c.block; certificate = i; message = None; blame = None })) ei;
        state = h.state;
        blocks = h.blocks;
        outbox = eo ∙ ap (λ o. put_item k 0 (Some (write m)) o) h.outbox;
      }
