-- One call more, and a list of calls.
use Rattle.std.proofs.Common.{◌≡◌, ℕ, ◌+◌, ◌<◌, true, false, List, [], ◌∷◌, ◌++◌, length, get_or, take, replicate, is_err, is_ok as answered_ok, OnOk, Ok, Err, vec_items, Result, sym, refl, ap, ◌∙◌, subst, add-one, take-suc}
use Rattle.std.specs.Result.{IfErr, IsErr}
use lib.ListN.{length-replicate}
use Rattle.content.specs.Kinds.{Kind}
use Rattle.content.specs.declared.kind.Content.{Ghosts}
use Rattle.content.specs.declared.refusal.Refusal.{Refusal}
use Rattle.content.specs.declared.refusal.Refusal.TheVariants.{NoMemory}
use Rattle.agreement.specs.History.{History}
use Rattle.agreement.specs.Setting.{Setting}
use Rattle.world.specs.Performing.{CalledAt}
use Rattle.agreement.proofs.Basics.{true-false}
use Rattle.world.specs.Replaying.{Counted, Played, Stepped}
use Rattle.world.specs.Worlds.{Stands, answer_to, call_of, event_at, event_of, played, tells, told_all, told_by, told_of}
use Rattle.world.specs.declared.call.Call.{Call}
use Rattle.world.specs.declared.call.Reply.{Reply}
use Rattle.world.specs.declared.desk.Desk.{Desk}

pub told_more : (rs : List Reply) (r : Reply) → told_of (rs ++ (r ∷ [])) ≡ told_of rs ++ (told_by r ∷ [])
told_more [] r = refl
told_more (x ∷ rs) r = ap (λ ts. told_by x ∷ ts) (told_more rs r)

module _ {L S : ℕ} {C R : Type 0} {bound : Ghosts C L R} (k : Kind L R) (w : Setting) where
  -- a call with an outbox of zeros, and its reply kept
  pub stepped : (c : Call) (h : History) (ds ds' : List (Desk L S C R bound)) (rs rs' : List Reply) (xs ws : List ℕ) (reply : Reply) →
      xs ≡ replicate c.room 0 → CalledAt k w (length ds) (event_at c.seat (call_of c.what (length xs))) h xs reply.answer ds' ws →
      vec_items reply.outbox ≡ ws → rs' ≡ rs ++ (reply ∷ []) → Stepped k w c h ds rs (Ok tt) ds' rs'
  stepped c h ds ds' rs rs' xs ws reply zeros called kept more =
      let at : CalledAt k w (length ds) (event_at c.seat (call_of c.what (length (replicate c.room 0)))) h (replicate c.room 0) reply.answer ds' ws =
      subst (λ z. CalledAt k w (length ds) (event_at c.seat (call_of c.what (length z))) h z reply.answer ds' ws) zeros called in
      let here : CalledAt k w (length ds) (event_of c) h (replicate c.room 0) reply.answer ds' ws =
      subst (λ n. CalledAt k w (length ds) (event_at c.seat (call_of c.what n)) h (replicate c.room 0) reply.answer ds' ws) (length-replicate c.room 0) at in (
        here.stands,
        ap told_of more ∙ (told_more rs reply ∙ ap (λ t. told_of rs ++ (t ∷ []))
            (ap (λ a. record { answer = a; outbox = vec_items reply.outbox }) here.answers ∙ ap (λ o. record { answer = answer_to S k w (length ds) (event_of c) h; outbox = o }) (kept ∙ here.outbox))),
      )

  -- memory was wanting, and nothing was done
  pub refused : (c : Call) (h : History) (ds : List (Desk L S C R bound)) (rs : List Reply) (r : Result (Unit {0}) Refusal) (ds' : List (Desk L S C R bound)) (rs' : List Reply) →
      IsErr r → IfErr r (λ e. e ≡ NoMemory) → ds' ≡ ds → rs' ≡ rs → Stepped k w c h ds rs r ds' rs'
  refused c h ds rs (Ok u) ds' rs' f m p q = absurd (true-false (sym f))
  refused c h ds rs (Err e) ds' rs' f m p q = (m, (p, q))

-- what an answer promises where it is no error
pub given_ok : {X E P : Type 0} (r : Result X E) → answered_ok r ≡ true → OnOk r P → P
given_ok (Ok x) e p = p
given_ok (Err x) e p = absurd (true-false (sym e))

play_more : (cs : List Call) (c : Call) (h : History) → played (cs ++ (c ∷ [])) h ≡ event_of c ∷ played cs h
play_more [] c h = refl
play_more (x ∷ cs) c h = play_more cs c (event_of x ∷ h)

module _ {L : ℕ} {R : Type 0} (S : ℕ) (k : Kind L R) (w : Setting) (n : ℕ) where
  tell_more : (cs : List Call) (c : Call) (h : History) → told_all S k w n (cs ++ (c ∷ [])) h ≡ told_all S k w n cs h ++ (tells S k w n c (played cs h) ∷ [])
  tell_more [] c h = refl
  tell_more (x ∷ cs) c h = ap (λ ts. tells S k w n x h ∷ ts) (tell_more cs c (event_of x ∷ h))

take_more : {X : Type 0} (xs : List X) (i : ℕ) (x : X) → i < length xs → take (i + 1) xs ≡ take i xs ++ (get_or xs i x ∷ [])
take_more xs i x h = ap (λ n. take n xs) (add-one i) ∙ take-suc xs i x h

module _ {L S : ℕ} {C R : Type 0} {bound : Ghosts C L R} (k : Kind L R) (w : Setting) (h : History) (n : ℕ) where
  pub played-none : (cs : List Call) (ds : List (Desk L S C R bound)) (rs : List Reply) → rs ≡ [] → Stands k w h ds → Played k w 0 cs h n ds rs
  played-none cs ds rs e stands = record { stands = stands; replies = ap told_of e }

  pub played-more : (i : ℕ) (cs : List Call) (c : Call) (ds ds' : List (Desk L S C R bound)) (rs rs' : List Reply) (r : Result (Unit {0}) Refusal) → i < length cs → get_or cs i c ≡ c → length ds ≡ n →
      Played k w i cs h n ds rs → is_err r ≡ false → Stepped k w c (played (take i cs) h) ds rs r ds' rs' → Played k w (i + 1) cs h n ds' rs'
  played-more i cs c ds ds' rs rs' (Err e) l g m p f s = absurd (true-false f)
  played-more i cs c ds ds' rs rs' (Ok u) l g m p f s =
      let more = take_more cs i c l ∙ ap (λ x. take i cs ++ (x ∷ [])) g in
      record {
        stands = subst (λ z. Stands k w z ds') (sym (ap (λ z. played z h) more ∙ play_more (take i cs) c h)) s.0;
        replies = s.1 ∙ (ap (λ z. told_of rs ++ (tells S k w z c (played (take i cs) h) ∷ [])) m ∙ (ap (λ z. z ++ (tells S k w n c (played (take i cs) h) ∷ [])) p.replies ∙
            sym (ap (λ z. told_all S k w n z h) more ∙ tell_more S k w n (take i cs) c h)));
      }

  pub played-same : (i : ℕ) (cs : List Call) (c : Call) (ds ds' : List (Desk L S C R bound)) (rs rs' : List Reply) (r : Result (Unit {0}) Refusal) →
      Played k w i cs h n ds rs → is_err r ≡ true → Stepped k w c (played (take i cs) h) ds rs r ds' rs' → Played k w i cs h n ds' rs'
  played-same i cs c ds ds' rs rs' (Ok u) p f s = absurd (true-false (sym f))
  played-same i cs c ds ds' rs rs' (Err e) p f s = record {
    stands = subst (λ z. Stands k w (played (take i cs) h) z) (sym s.1.0) p.stands;
    replies = ap told_of s.1.1 ∙ p.replies;
  }

pub counted-more : (r : Result (Unit {0}) Refusal) (a b i : ℕ) → is_err r ≡ false → a ≡ i → Counted r a b → b ≡ i + 1
counted-more (Ok u) a b i f e c = c ∙ ap (λ z. z + 1) e
counted-more (Err x) a b i f e c = absurd (true-false f)

pub counted_same : (r : Result (Unit {0}) Refusal) (a b i : ℕ) → is_err r ≡ true → a ≡ i → Counted r a b → b ≡ i
counted_same (Ok u) a b i f e c = absurd (true-false (sym f))
counted_same (Err x) a b i f e c = c ∙ e
