-- A world that begins stands in a lawful setting after no calls.
use Rattle.std.proofs.Common.{◌≡◌, ℕ, zero, suc, ◌<◌, ◌≤◌, Bool, true, List, [], ◌∷◌, length, get_or, take, is_some, vec_items, sym, refl, ap, ◌∙◌, subst, arith}
use Rattle.content.specs.Kinds.{Kind}
use Rattle.content.specs.declared.kind.Content.{Ghosts}
use Rattle.blocks.specs.Masks.{faults}
use Rattle.state.specs.declared.state.Terms.{Terms}
use Rattle.agreement.specs.Setting.{Lawful, Setting, unsound}
use Rattle.agreement.proofs.Steps.{desk-none}
use Rattle.world.specs.Desks.{cells_of}
use Rattle.world.specs.Making.{Begun, CanBegin}
use Rattle.world.specs.Worlds.{Stands}
use Rattle.world.specs.declared.desk.Desk.{Desk}

module _ {L S : ℕ} {C R : Type 0} {bound : Ghosts C L R} where
  -- what the seat at a place was made from, and how many cells it has; beyond the last place it does not matter
  abbrev terms_in : List (Desk L S C R bound) → ℕ → Terms
  terms_in [] i = record { seats = record { n = 3; lawful = refl }; own = i; delta = 1; patience = 1 }
  terms_in (d ∷ ds) zero = d.seat.terms
  terms_in (d ∷ ds) (suc i) = terms_in ds i

  abbrev cells_in : List (Desk L S C R bound) → ℕ → ℕ
  cells_in [] i = 0
  cells_in (d ∷ ds) zero = cells_of d
  cells_in (d ∷ ds) (suc i) = cells_in ds i

  each-terms : (ds : List (Desk L S C R bound)) (P : ℕ → Terms → Type 0) → ((i : ℕ) (d : Desk L S C R bound) → i < length ds → get_or ds i d ≡ d → P i d.seat.terms) →
      (i : ℕ) → i < length ds → P i (terms_in ds i)
  each-terms [] P h i l = absurd (omega arith)
  each-terms (d ∷ ds) P h zero l = h zero d l refl
  each-terms (d ∷ ds) P h (suc i) l = each-terms ds (λ j. P (suc j)) (λ j e m g. h (suc j) e (omega arith) g) i (omega arith)

  terms-at : (ds : List (Desk L S C R bound)) (i : ℕ) (d : Desk L S C R bound) → i < length ds → get_or ds i d ≡ d → d.seat.terms ≡ terms_in ds i
  terms-at [] i d l g = absurd (omega arith)
  terms-at (x ∷ ds) zero d l g = sym (ap (λ z. z.seat.terms) g)
  terms-at (x ∷ ds) (suc i) d l g = terms-at ds i d (omega arith) g

  cells_at : (ds : List (Desk L S C R bound)) (i : ℕ) (d : Desk L S C R bound) → i < length ds → get_or ds i d ≡ d → cells_of d ≡ cells_in ds i
  cells_at [] i d l g = absurd (omega arith)
  cells_at (x ∷ ds) zero d l g = sym (ap cells_of g)
  cells_at (x ∷ ds) (suc i) d l g = cells_at ds i d (omega arith) g

  module _ (k : Kind L R) (leader : ℕ → ℕ) (accepts : ℕ → List ℕ → List ℕ → Bool) (ds : List (Desk L S C R bound)) where
    abbrev beginning : (n delta : ℕ) → (ℕ → Bool) → Setting
    beginning n delta sound = record {
      n = n;
      delta = delta;
      leader = leader;
      accepts = accepts;
      sound = sound;
      terms = terms_in ds;
      cells = cells_in ds;
    }

    new_stands : (n delta : ℕ) (sound : ℕ → Bool) → Begun n delta ds → Stands k (beginning n delta sound) [] ds
    new_stands n delta sound b i d l g =
        let new = b.each i d l g in
        let none = desk-none S k (beginning n delta sound) i in
        record {
          terms = terms-at ds i d l g;
          cells = cells_at ds i d l g;
          state = new.uncalled ∙ sym (ap (λ x. x.state) none);
          blocks = ap (λ m. take m (vec_items d.cells)) new.empty ∙ sym (ap (λ x. x.blocks) none);
          tidy = record {
            within = subst (λ m. m ≤ length (vec_items d.cells)) (sym new.empty) (omega arith);
            slip_held = ap is_some new.no_slip ∙ sym (ap (λ s. s.slip) new.uncalled);
          };
        }

    new_lawful : (n delta : ℕ) (sound : ℕ → Bool) → Begun n delta ds → ((i : ℕ) → sound i ≡ true → i < n) → unsound sound n ≤ faults n → Lawful (beginning n delta sound)
    new_lawful n delta sound b among few =
        let here : (i : ℕ) → sound i ≡ true → i < length ds = λ i s. subst (λ m. i < m) (sym b.all) (among i s) in
        record {
          seats = b.lawful_seats;
          among = among;
          shares_n = λ i s. each-terms ds (λ j p. p.seats.n ≡ n) (λ j d l g. (b.each j d l g).of_seats) i (here i s);
          shares_delta = λ i s. each-terms ds (λ j p. p.delta ≡ delta) (λ j d l g. (b.each j d l g).of_delta) i (here i s);
          some_delta = b.some_delta;
          own = λ i s. each-terms ds (λ j p. p.own ≡ j) (λ j d l g. (b.each j d l g).of_own) i (here i s);
          few = few;
        }

    pub can_begin : CanBegin k leader accepts ds
    can_begin n delta sound b among few =
        (beginning n delta sound, (refl, (refl, (refl, (new_lawful n delta sound b among few, new_stands n delta sound b)))))
