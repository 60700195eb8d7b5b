-- Votes and blames counted, one outcome at a time.
use Rattle.std.proofs.Common.{◌≡◌, ℕ, zero, suc, ◌-◌, ◌*◌, ◌≤◌, Bool, true, false, cond, not, ◌&&◌, eqb, List, [], ◌∷◌, ◌++◌, length, get_or, take, set, is_some, Some, None, Ok, Err, Option, Result, sym, refl, ap, ◌∙◌, mul-le-mul_left, arith, length-take, set-set}
use lib.Seq.{set-get_or}
use native.Mathlib.Nat.{sub-zero}
use Rattle.std.proofs.lemmas.Bool.Decides.{nat_tests}
use Rattle.content.specs.Kinds.{Kind}
use Rattle.content.specs.declared.refusal.Refusal.{Refusal}
use Rattle.content.specs.declared.refusal.Refusal.TheVariants.{LastView}
use Rattle.rota.specs.Limits.{seats_lawful}
use Rattle.blocks.specs.Keeping.{padded}
use Rattle.blocks.specs.Masks.{count_kept, mask_kept, quorum, row_kept}
use Rattle.blocks.specs.declared.block.Block.{Block}
use Rattle.blocks.specs.declared.rows.SealRow.{SealRow}
use Rattle.wire.specs.declared.message.Certificate.{Certificate}
use Rattle.wire.specs.declared.message.Parts.{Parts}
use Rattle.wire.specs.declared.message.Parts.TheVariants.{Certified, Notice}
use Rattle.state.specs.Does.{Does}
use Rattle.state.specs.HandIn.{add_seal, blame, blame_counts, carried, certificate_of, completed, countable, counted, counts_blame, drop_seal, has_seal, idle, is_note, last_view, leaves, notice_of, quorate, row_of, vote, vote_counts}
use Rattle.state.specs.Parts.{is_on, with_blames, with_votes}
use Rattle.state.specs.Sends.{item_at, put_item, write}
use Rattle.state.specs.TakeIn.{height_of, judge_in, shelve}
use Rattle.state.specs.declared.answer.Item.{Item}
use Rattle.state.specs.declared.answer.Word.TheVariants.{Certified as SaysCertified}
use Rattle.state.specs.declared.state.State.{State}
use Rattle.state.specs.declared.state.Terms.{Terms}
use Rattle.state.specs.declared.taking.Verdict.{Verdict}
use Rattle.state.specs.declared.taking.Verdict.TheVariants.{New}
use Rattle.hearing.proofs.Doing.{does_at, skips, takes}

module _ {X : Type 0} (x y : X) where
  first : (b : Bool) → true ≡ b → x ≡ cond b x y
  first b h = rw (sym h) refl

  second : (b : Bool) → false ≡ b → y ≡ cond b x y
  second b h = rw (sym h) refl

few : (n m : ℕ) → seats_lawful n ≡ true → true ≡ eqb m (quorum n) → m ≤ 8
few n m l h = grind (arith, nat_tests)

-- a quorum is at most 8 seals
pub quorum-few : {S : ℕ} (p : Terms) (row : SealRow S) → true ≡ quorate p row → count_kept row.by_seat ≤ 8
quorum-few p row h = few p.seats.n (count_kept row.by_seat) p.seats.lawful h

module _ (S count : ℕ) where
  -- 8 seals fit into the memory of a row
  seals_fit_lem : S ≤ 64 → count ≤ 8 → count * S ≤ 512
  seals_fit_lem s c =
      let m : count * S ≤ count * 64 = mul-le-mul_left count s in
      omega arith

padded-length : (room : ℕ) (xs : List ℕ) → length (padded room xs) ≡ room
unfolding padded
padded-length zero xs = refl
padded-length (suc room) [] = ap suc (padded-length room [])
padded-length (suc room) (x ∷ xs) = ap suc (padded-length room xs)

module _ {S : ℕ} (kept : SealRow S) where
  pub seals_of_lem : (count : ℕ) → S ≤ 64 → count ≡ count_kept kept.by_seat → count_kept kept.by_seat ≤ 8 → count * S ≤ 512
  seals_of_lem count s c few = seals_fit_lem S count s (omega (arith, c))

  pub row-holds : (count : ℕ) (row : List ℕ) → S ≤ 64 → count ≡ count_kept kept.by_seat → count_kept kept.by_seat ≤ 8 → row ≡ padded 512 (row_kept kept.by_seat) →
      count * S ≤ length row
  row-holds count row s c few r =
      let m : count * S ≤ 512 = seals_of_lem count s c few in
      let l : length row ≡ 512 = ap length r ∙ padded-length 512 (row_kept kept.by_seat) in
      omega arith

  pub row_room : (count : ℕ) (row : List ℕ) → S ≤ 64 → count ≡ count_kept kept.by_seat → count_kept kept.by_seat ≤ 8 → length (take (count * S - 0) row) ≤ 512
  row_room count row s c few =
      let m : count * S ≤ 512 = seals_of_lem count s c few in
      omega (arith, length-take (count * S - 0) row)

  row_of_lem : (count : ℕ) (row : List ℕ) → count ≡ count_kept kept.by_seat → row ≡ padded 512 (row_kept kept.by_seat) →
      take (count * S - 0) row ≡ row_of kept
  row_of_lem count row c r = rw (sub-zero (count * S), c, r) refl

  -- the notice as it is written
  pub notice_of_lem : {R : Type 0} (view mask count : ℕ) (row : List ℕ) → mask ≡ mask_kept kept.by_seat → count ≡ count_kept kept.by_seat → row ≡ padded 512 (row_kept kept.by_seat) →
      ◌≡◌ {A = Parts R (List ℕ)} (Notice view mask (take (count * S - 0) row)) (notice_of view kept)
  notice_of_lem view mask count row m c r = ap (λ x. Notice view x (take (count * S - 0) row)) m ∙ ap (λ x. Notice view (mask_kept kept.by_seat) x) (row_of_lem count row c r)

  -- the certificate as it is written
  pub certificate_of_lem : {R : Type 0} (b : Block R) (mask count : ℕ) (row : List ℕ) → mask ≡ mask_kept kept.by_seat → count ≡ count_kept kept.by_seat → row ≡ padded 512 (row_kept kept.by_seat) →
      ◌≡◌ {A = Certificate R (List ℕ)} (record { block = b; mask = mask; seals = take (count * S - 0) row }) (certificate_of b kept)
  certificate_of_lem {R} b mask count row m c r =
      ap (λ x. record { block = b; mask = x; seals = take (count * S - 0) row }) m
      ∙ ap (λ (x : List ℕ). record { block = b; mask = mask_kept kept.by_seat; seals = x }) (row_of_lem count row c r)

module _ {S : ℕ} {R : Type 0} (p : Terms) (s : State S R) (bs : List (Block R)) (i view : ℕ) (seal : List ℕ) where
  pub blame-idle : (view ≡ last_view → ⊥) → false ≡ counts_blame s i view → Ok (idle s bs) ≡ blame p s bs i view seal
  blame-idle n h = skips s bs view (Err LastView) (Ok (blame_counts p (with_blames (add_seal s.blames i seal) s) bs view)) (Ok (idle s bs)) (counts_blame s i view) n h

  blame_counts_lem : (t : State S R) → (view ≡ last_view → ⊥) → true ≡ counts_blame s i view → t ≡ with_blames (add_seal s.blames i seal) s → Ok (blame_counts p t bs view) ≡ blame p s bs i view seal
  blame_counts_lem t n h e =
      ap (λ u. Ok (blame_counts p u bs view)) e
      ∙ takes s bs view (Err LastView) (Ok (blame_counts p (with_blames (add_seal s.blames i seal) s) bs view)) (Ok (idle s bs)) (counts_blame s i view) n h

  pub blame-counted : (t : State S R) → (view ≡ last_view → ⊥) → true ≡ counts_blame s i view → t ≡ with_blames (add_seal s.blames i seal) s → false ≡ quorate p t.blames →
      Ok (counted t bs) ≡ blame p s bs i view seal
  blame-counted t n h e q =
      ap (λ o. Ok o) (second (leaves t bs view (write (notice_of view t.blames))) (counted t bs) (quorate p t.blames) q) ∙ blame_counts_lem t n h e

  pub blame-leaves : (t : State S R) → (view ≡ last_view → ⊥) → true ≡ counts_blame s i view → t ≡ with_blames (add_seal s.blames i seal) s → true ≡ quorate p t.blames →
      Ok (leaves t bs view (write (notice_of view t.blames))) ≡ blame p s bs i view seal
  blame-leaves t n h e q =
      ap (λ o. Ok o) (first (leaves t bs view (write (notice_of view t.blames))) (counted t bs) (quorate p t.blames) q) ∙ blame_counts_lem t n h e

module _ {L S : ℕ} {R : Type 0} (k : Kind L R) (s : State S R) (bs : List (Block R)) (out : List ℕ) (b : Block R) where
  -- a certificate written and taken in
  pub certifies : (c : Certificate R (List ℕ)) (item : Item) (height : ℕ) (s' : State S R) (bs' : List (Block R)) (out' : List ℕ) → c ≡ certificate_of b s.round.votes →
      Some item ≡ item_at k 0 (Some (write (Certified c))) → out' ≡ put_item k 0 (Some (write (Certified c))) out → height ≡ height_of s c.block → s' ≡ shelve c s → bs' ≡ bs ++ (c.block ∷ []) →
      Does k (Ok (completed s bs (certificate_of b s.round.votes) New)) s bs out (Ok (record { word = SaysCertified; height = height; certificate = Some item; message = None; blame = None })) s' bs' out'
  certifies c item height s' bs' out' e ei eo eh es eb =
      does_at k (Ok (completed s bs c New)) (Ok (completed s bs (certificate_of b s.round.votes) New)) (ap (λ x. Ok (completed s bs x New)) e)
      (record {
        answer =
            ap (λ (h : ℕ). Ok (record { word = SaysCertified; height = h; certificate = Some item; message = None; blame = None })) eh
            ∙ ap (λ (m : Option Item). Ok (record { word = SaysCertified; height = height_of s c.block; certificate = m; message = None; blame = None })) ei;
        state = es;
        blocks = eb;
        outbox = eo;
      })

none_of : {X : Type 0} (o : Option X) → is_some o ≡ false → o ≡ None
none_of None h = refl
none_of (Some x) h = absurd (let z : ◌≡◌ {A = Bool} true false = h in omega (arith, bad z))
  where
    bad : ◌≡◌ {A = Bool} true false → ◌≡◌ {A = ℕ} 0 1
    bad e = cc

-- a seal that was not there, kept and taken back
dropped : {X : Type 0} (xs : List (Option X)) (i : ℕ) (x : X) → is_some (get_or xs i None) ≡ false → set (set xs i (Some x)) i None ≡ xs
dropped xs i x h = set-set xs i (Some x) None ∙ (ap (λ y. set xs i y) (sym (none_of (get_or xs i None) h)) ∙ set-get_or xs i None)

not_there : (a b c : Bool) → true ≡ (a && (b && not c)) → c ≡ false
not_there a b c h = grind (arith, nat_tests)

module _ {L S : ℕ} {R : Type 0} (k : Kind L R) (p : Terms) (s : State S R) (bs : List (Block R)) (cells i : ℕ) (b : Block R) (seal : List ℕ) where
  module _ (t : State S R) (h : true ≡ countable k s i b) (e : t ≡ with_votes (add_seal s.round.votes i seal) s) where
    vote_counts_lem : vote_counts k p t bs cells b ≡ vote k p s bs cells i b seal
    vote_counts_lem =
        ap (λ u. vote_counts k p u bs cells b) e
        ∙ first (vote_counts k p (with_votes (add_seal s.round.votes i seal) s) bs cells b) (Ok (idle s bs)) (countable k s i b) h

    pub vote-judged : true ≡ quorate p t.round.votes → (v : Result Verdict Refusal) → v ≡ judge_in k t bs cells b →
        carried (completed t bs (certificate_of b t.round.votes)) v ≡ vote k p s bs cells i b seal
    vote-judged q v j =
        ap (λ x. carried (completed t bs (certificate_of b t.round.votes)) x) j
        ∙ (first (carried (completed t bs (certificate_of b t.round.votes)) (judge_in k t bs cells b)) (Ok (counted t bs)) (quorate p t.round.votes) q ∙ vote_counts_lem)

    -- a vote taken back leaves the seat as it was
    pub vote-dropped : (u : State S R) → u ≡ with_votes (drop_seal t.round.votes i) t → u ≡ s
    vote-dropped u d =
        d ∙ (ap (λ x. with_votes (drop_seal x.round.votes i) x) e
        ∙ ap (λ xs. with_votes (record { by_seat = xs }) s)
        (dropped s.round.votes.by_seat i seal (not_there (is_on s.phase) (is_note k s.round.note b) (has_seal s.round.votes i) h)))
