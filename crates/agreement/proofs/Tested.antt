-- The test of histories at the three seats, put together: seals, whole runs, and what was committed.
use Rattle.std.proofs.Common.{◌≡◌, ℕ, ◌<◌, Bool, true, false, not, ◌&&◌, ◌||◌, eqb, ltb, ◌⊎◌, List, [], ◌∷◌, ◌++◌, Some, None, Ok, Err, Option, Result, sym, refl, ap, ◌∙◌, subst, inl, inr}
use Rattle.std.specs.Str.{bytes_eq}
use Rattle.std.proofs.lemmas.Slice.Eq.{bytes_eq-Decides}
use Rattle.std.proofs.lemmas.Bool.{and_from, and_parts, eqb-true, ltb-true, not_from_true, or_cases}
use Rattle.content.specs.declared.refusal.Refusal.{Refusal}
use Rattle.blocks.specs.Ranks.{same_block}
use Rattle.blocks.specs.declared.block.Block.{Block}
use Rattle.wire.specs.Asked.{Question, asked}
use Rattle.wire.specs.Layout.{blame_statement, proposal_statement, vote_statement}
use Rattle.wire.specs.Reading.{read_parts}
use Rattle.wire.specs.declared.message.Parts.{Parts}
use Rattle.wire.specs.declared.message.Parts.TheVariants.{Proposal, Vote, Blame, Certified, Notice}
use Rattle.state.specs.Sends.{Outcome, Sending, relay, write}
use Rattle.state.specs.declared.answer.Word.{Word}
use Rattle.state.specs.declared.answer.Word.TheVariants.{Idle, Noted, Accepted, Clash, Certified as SaysCertified, Counted, Left, Offered, Entered, Voted, Blamed}
use Rattle.agreement.specs.Committed.{Committed, Takes, direct}
use Rattle.agreement.specs.History.{Always, Desk, Did, Event, History, Once, Own, desk, inbox_of}
use Rattle.agreement.specs.Run.{Each, Honest, HonestSeal, Run}
use Rattle.agreement.specs.Setting.{Sound}
use Rattle.agreement.specs.Witness.{Clashes, InStep, InTime, one_byte, three}
use Rattle.agreement.proofs.Basics.{head-same, true-false}
use Rattle.agreement.proofs.Checker.{AllSealed, AllSound, Table, driven-is, is_driven, is_timely, step_is, steps_at, timely-is}
use Rattle.agreement.proofs.Replay.{Stamp, answer_is, desk-is, desk_of, stamp, trace}
use Rattle.agreement.proofs.Statements.{Alike, same_alike}

-- a statement that an item is a seat's own of
abbrev pub owns : List ℕ → Option (Sending ℕ) → Bool
owns st None = false
owns st (Some relay) = false
owns st (Some (write (Proposal b seal parent))) = bytes_eq (proposal_statement one_byte b) st
owns st (Some (write (Vote i b seal))) = bytes_eq (vote_statement one_byte b) st
owns st (Some (write (Blame i view seal))) = bytes_eq (blame_statement view) st
owns st (Some (write (Certified c))) = false
owns st (Some (write (Notice view mask seals))) = false

owns-is : (st : List ℕ) (x : Option (Sending ℕ)) → owns st x ≡ true → Own 1 one_byte three st x
owns-is st None e = absurd (true-false (sym e))
owns-is st (Some relay) e = absurd (true-false (sym e))
owns-is st (Some (write (Proposal b seal parent))) e = (bytes_eq-Decides (proposal_statement one_byte b) st).0 e
owns-is st (Some (write (Vote i b seal))) e = (bytes_eq-Decides (vote_statement one_byte b) st).0 e
owns-is st (Some (write (Blame i view seal))) e = (bytes_eq-Decides (blame_statement view) st).0 e
owns-is st (Some (write (Certified c))) e = absurd (true-false (sym e))
owns-is st (Some (write (Notice view mask seals))) e = absurd (true-false (sym e))

-- an answer with an outcome that passes a test
abbrev pub passes : (Outcome 1 ℕ → Bool) → Result (Outcome 1 ℕ) Refusal → Bool
passes f (Ok o) = f o
passes f (Err r) = false

passes-is : (f : Outcome 1 ℕ → Bool) (x : Result (Outcome 1 ℕ) Refusal) → passes f x ≡ true → (o : Outcome 1 ℕ) × (x ≡ Ok o) × (f o ≡ true)
passes-is f (Ok o) e = (o, refl, e)
passes-is f (Err r) e = absurd (true-false (sym e))

pub did_is : (f : Outcome 1 ℕ → Bool) (P : Outcome 1 ℕ → Type 0) → ((o : Outcome 1 ℕ) → f o ≡ true → P o) → (e : Event) (h : History) → Sound three e.who →
    passes f (stamp e (trace h)).answer ≡ true → Did 1 one_byte three P e h
did_is f P is e h s ok =
    let a = passes-is f (stamp e (trace h)).answer ok in
    (a.0, answer_is e h s ∙ a.1, is a.0 a.2)

-- a call that passes a test
abbrev pub some : (Stamp → List Stamp → Bool) → List Stamp → Bool
some f [] = false
some f (s ∷ t) = f s t || some f t

some_is : (f : Stamp → List Stamp → Bool) (P : Event → History → Type 0) →
    ((e : Event) (h : History) → Sound three e.who → f (stamp e (trace h)) (trace h) ≡ true → P e h) →
    (h : History) → AllSound h → some f (trace h) ≡ true → Once P h
unfolding trace
some_is f P is [] all ok = true-false (sym ok)
some_is f P is (e ∷ h) all ok =
    elim (or_cases (f (stamp e (trace h)) (trace h)) (some f (trace h)) ok) [
      | inl x ↦ inl (is e h all.0 x)
      | inr x ↦ inr (some_is f P is h all.1 x)
    ]

-- a statement that a seat sent as its own
abbrev pub says : ℕ → List ℕ → Stamp → Bool
says i st s = eqb s.event.who i && passes (λ o. owns st o.sends.message || owns st o.sends.blame) s.answer

says_is : (i : ℕ) (st : List ℕ) (e : Event) (h : History) → Sound three e.who → says i st (stamp e (trace h)) ≡ true →
    (e.who ≡ i) × Did 1 one_byte three (λ o. Own 1 one_byte three st o.sends.message ⊎ Own 1 one_byte three st o.sends.blame) e h
says_is i st e h s ok =
    let f : Outcome 1 ℕ → Bool = λ o. owns st o.sends.message || owns st o.sends.blame in
    let a = and_parts (eqb e.who i) (passes f (stamp e (trace h)).answer) ok in (
      eqb-true e.who i a.0,
      did_is f (λ o. Own 1 one_byte three st o.sends.message ⊎ Own 1 one_byte three st o.sends.blame) (λ o x.
          elim (or_cases (owns st o.sends.message) (owns st o.sends.blame) x) [
            | inl y ↦ inl (owns-is st o.sends.message y)
            | inr y ↦ inr (owns-is st o.sends.blame y)
          ]) e h s a.1,
    )

-- the seals of a message are honest
abbrev pub honest_seals : List Stamp → List Question → Bool
honest_seals t [] = true
honest_seals t (q ∷ qs) =
    let said : Bool = some (λ s _. says q.seat q.statement s) t in
    (not (three.sound q.seat && three.accepts q.seat q.statement q.seal) || said) && honest_seals t qs

abbrev pub honest_as : List Stamp → Result (Parts ℕ (List ℕ)) Refusal → Bool
honest_as t (Ok m) = honest_seals t (asked one_byte 1 3 three.leader m)
honest_as t (Err r) = true

abbrev pub is_honest : Stamp → List Stamp → Bool
is_honest s t = honest_as t (read_parts one_byte 1 3 (inbox_of s.event.what))

seals_are : (h : History) → AllSound h → (qs : List Question) → honest_seals (trace h) qs ≡ true → Each (HonestSeal 1 one_byte three h) qs
seals_are h all [] ok = tt
seals_are h all (q ∷ qs) ok =
    let f : Stamp → List Stamp → Bool = λ s _. says q.seat q.statement s in
    let good : Bool = three.sound q.seat && three.accepts q.seat q.statement q.seal in
    let a = and_parts (not good || some f (trace h)) (honest_seals (trace h) qs) ok in (
      λ s yes-it. elim (or_cases (not good) (some f (trace h)) a.0) [
        | inl x ↦ absurd (true-false (sym x ∙ not_from_true good (and_from (three.sound q.seat) (three.accepts q.seat q.statement q.seal) s yes-it)))
        | inr x ↦ some_is f (λ e p. (e.who ≡ q.seat) × Did 1 one_byte three (λ o. Own 1 one_byte three q.statement o.sends.message ⊎
            Own 1 one_byte three q.statement o.sends.blame) e p) (says_is q.seat q.statement) h all x
      ],
      seals_are h all qs a.1,
    )

pub honest-is : (e : Event) (h : History) → AllSound h → is_honest (stamp e (trace h)) (trace h) ≡ true → Honest 1 one_byte three e h
honest-is e h all ok m reads =
    seals_are h all (asked one_byte 1 3 three.leader m) (subst (λ z. honest_as (trace h) z ≡ true) reads ok)

-- every call passes a test
abbrev pub every : (Stamp → List Stamp → Bool) → List Stamp → Bool
every f [] = true
every f (s ∷ t) = f s t && every f t

every-is : (f : Stamp → List Stamp → Bool) (P : Event → History → Type 0) →
    ((e : Event) (h : History) → AllSound (e ∷ h) → f (stamp e (trace h)) (trace h) ≡ true → P e h) →
    (h : History) → AllSound h → every f (trace h) ≡ true → Always P h
unfolding trace
every-is f P is [] all ok = tt
every-is f P is (e ∷ h) all ok =
    let a = and_parts (f (stamp e (trace h)) (trace h)) (every f (trace h)) ok in
    (is e h all a.0, every-is f P is h all.1 a.1)

abbrev pub is_in_step : Stamp → List Stamp → Bool
is_in_step s t = is_driven s && steps_at s.event.who s.event.what t

pub all_sound : (h : History) → every is_in_step (trace h) ≡ true → AllSound h
unfolding trace
all_sound [] ok = tt
all_sound (e ∷ h) ok =
    let s : Stamp = stamp e (trace h) in
    let a = and_parts (is_in_step s (trace h)) (every is_in_step (trace h)) ok in
    let b = and_parts (is_driven s) (steps_at e.who e.what (trace h)) a.0 in
    ((driven-is e h b.0).at_sound, all_sound h a.1)

pub in_step : (h : History) → every is_in_step (trace h) ≡ true → Always InStep h
in_step h ok =
    every-is is_in_step InStep (λ e p all x.
    let a = and_parts (is_driven (stamp e (trace p))) (steps_at e.who e.what (trace p)) x in
    (driven-is e p a.0, step_is e.who e.what p all.0 a.1)) h (all_sound h ok) ok

pub in_time_lem : (ps : Table) → AllSealed ps → (h : History) → AllSound h → every (λ s t. is_timely ps (s ∷ t)) (trace h) ≡ true → Always InTime h
unfolding trace
in_time_lem ps sealed h all ok =
    every-is (λ s t. is_timely ps (s ∷ t)) InTime (λ e p all x. timely-is ps sealed (e ∷ p) all x) h all ok

pub honest-all : (h : History) → AllSound h → every is_honest (trace h) ≡ true → Always (Honest 1 one_byte three) h
honest-all h all ok = every-is is_honest (Honest 1 one_byte three) (λ e p all x. honest-is e p all.1 x) h all ok

-- the three together are a run
pub run_is : (h : History) → Always InStep h → Always InTime h → Always (Honest 1 one_byte three) h → Run 1 one_byte three h
run_is [] a b c = tt
run_is (e ∷ h) a b c =
    (record { driven = a.0.0; in_step = a.0.1; timely = b.0; honest = c.0 }, run_is h a.1 b.1 c.1)

-- a clash
abbrev pub is_clash : Word → Bool
is_clash Idle = false
is_clash Noted = false
is_clash Accepted = false
is_clash Clash = true
is_clash SaysCertified = false
is_clash Counted = false
is_clash Left = false
is_clash Offered = false
is_clash Entered = false
is_clash Voted = false
is_clash Blamed = false

clash-is : (x : Word) → is_clash x ≡ true → x ≡ Clash
clash-is Idle e = absurd (true-false (sym e))
clash-is Noted e = absurd (true-false (sym e))
clash-is Accepted e = absurd (true-false (sym e))
clash-is Clash e = refl
clash-is SaysCertified e = absurd (true-false (sym e))
clash-is Counted e = absurd (true-false (sym e))
clash-is Left e = absurd (true-false (sym e))
clash-is Offered e = absurd (true-false (sym e))
clash-is Entered e = absurd (true-false (sym e))
clash-is Voted e = absurd (true-false (sym e))
clash-is Blamed e = absurd (true-false (sym e))

abbrev pub clashes_at : ℕ → Stamp → List Stamp → Bool
clashes_at i s t = eqb s.event.who i && passes (λ o. is_clash o.word) s.answer

pub clashes : (i : ℕ) (h : History) → AllSound h → some (clashes_at i) (trace h) ≡ true → Clashes i h
clashes i h all ok =
    some_is (clashes_at i) (λ e p. (e.who ≡ i) × Did 1 one_byte three (λ o. o.word ≡ Clash) e p) (λ e p s x.
    let a = and_parts (eqb e.who i) (passes (λ o. is_clash o.word) (stamp e (trace p)).answer) x in
    (eqb-true e.who i a.0, did_is (λ o. is_clash o.word) (λ o. o.word ≡ Clash) (λ o. clash-is o.word) e p s a.1)) h all ok

-- a commit
block-is : (a b : Block ℕ) → same_block one_byte a b ≡ true → a ≡ b
block-is a b e =
    let x : Alike one_byte a b = same_alike one_byte a b e in
    let c : a.content ≡ b.content = head-same x.shown in
    λ i. record { rank = x.rank i; height = x.height i; parent = x.parent i; content = c i }

abbrev pub same_blocks : List (Block ℕ) → List (Block ℕ) → Bool
same_blocks [] [] = true
same_blocks [] (b ∷ bs) = false
same_blocks (a ∷ xs) [] = false
same_blocks (a ∷ xs) (b ∷ bs) = same_block one_byte a b && same_blocks xs bs

blocks_are : (xs ys : List (Block ℕ)) → same_blocks xs ys ≡ true → xs ≡ ys
blocks_are [] [] e = refl
blocks_are [] (y ∷ ys) e = absurd (true-false (sym e))
blocks_are (x ∷ xs) [] e = absurd (true-false (sym e))
blocks_are (x ∷ xs) (y ∷ ys) e =
    let a = and_parts (same_block one_byte x y) (same_blocks xs ys) e in
    λ i. block-is x y a.0 i ∷ blocks_are xs ys a.1 i

abbrev pub commits_at : ℕ → Block ℕ → Stamp → List Stamp → Bool
commits_at i b s t =
    eqb s.event.who i && (passes (λ o. ltb 0 o.height) s.answer &&
    passes (λ o. same_blocks o.blocks ((desk_of s.event.who t).blocks ++ (b ∷ []))) s.answer)

commit-is : (i : ℕ) (b : Block ℕ) (e : Event) (p : History) → Sound three e.who → commits_at i b (stamp e (trace p)) (trace p) ≡ true →
    (e.who ≡ i) × (Did 1 one_byte three (λ o. 0 < o.height) e p × Takes 1 one_byte three b e p)
commit-is i b e p s x =
    let f : Outcome 1 ℕ → Bool = λ o. ltb 0 o.height in
    let g : Outcome 1 ℕ → Bool = λ o. same_blocks o.blocks ((desk_of e.who (trace p)).blocks ++ (b ∷ [])) in
    let a = and_parts (eqb e.who i) (passes f (stamp e (trace p)).answer && passes g (stamp e (trace p)).answer) x in
    let c = and_parts (passes f (stamp e (trace p)).answer) (passes g (stamp e (trace p)).answer) a.1 in
    let d : desk 1 one_byte three e.who p ≡ desk_of e.who (trace p) = desk-is e.who s p in (
      eqb-true e.who i a.0,
      (
        did_is f (λ o. 0 < o.height) (λ o y. ltb-true 0 o.height y) e p s c.0,
        did_is g (λ o. o.blocks ≡ (desk 1 one_byte three e.who p).blocks ++ (b ∷ []))
            (λ o y. blocks_are o.blocks ((desk_of e.who (trace p)).blocks ++ (b ∷ [])) y ∙
            ap (λ (z : Desk 1 ℕ). z.blocks ++ (b ∷ [])) (sym d)) e p s c.1,
      ),
    )

pub commits : (i : ℕ) (b : Block ℕ) (h : History) → AllSound h → some (commits_at i b) (trace h) ≡ true → Committed 1 one_byte three h i b
commits i b h all ok =
    direct b (some_is (commits_at i b) (λ e p. (e.who ≡ i) × (Did 1 one_byte three (λ o. 0 < o.height) e p × Takes 1 one_byte three b e p))
    (commit-is i b) h all ok)
