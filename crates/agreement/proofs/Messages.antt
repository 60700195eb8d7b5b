-- What the bytes of a notice and of a certificate are read as.
use Rattle.std.proofs.Common.{◌≡◌, ℕ, ◌+◌, ◌^◌, ◌<◌, List, [], ◌∷◌, ◌++◌, length, Ok, Result, refl, ap, subst, arith}
use Rattle.content.specs.Kinds.{Kind}
use Rattle.content.specs.Numbers.{spell}
use Rattle.content.specs.declared.refusal.Refusal.{Refusal}
use Rattle.blocks.specs.Masks.{quorum}
use Rattle.blocks.specs.declared.block.Block.{Block}
use Rattle.wire.specs.Lawful.{LawfulBlock}
use Rattle.wire.specs.Layout.{block_bytes, message_bytes}
use Rattle.wire.specs.Reading.{ended, peel_body, peel_mask, peel_number, peel_seals, read_certified, read_notice, read_parts}
use Rattle.wire.specs.declared.message.Certificate.{Certificate}
use Rattle.wire.specs.declared.message.Parts.{Parts}
use Rattle.wire.specs.declared.message.Parts.TheVariants.{Certified, Notice}
use Rattle.wire.proofs.Bodies.{block_forth}
use Rattle.wire.proofs.Steps.{Gives, gives_err, gives_ok, gives_next, number_forth}
use Rattle.agreement.specs.Setting.{Setting}
use Rattle.agreement.specs.Laws.{AsCertificate}
use Rattle.agreement.proofs.Facts.{AsNotice}

-- what was read passes on what held of it
gives_ended : {X : Type 0} (Q : X → Type 0) (total : ℕ) (p : X × List ℕ) → Q p.0 → Gives (ended total p) Q
gives_ended Q total (x, []) h = gives_ok Q x h
gives_ended Q total (x, y ∷ ys) h = gives_err Q _

any : {X : Type 0} (r : Result X Refusal) → Gives r (λ _. Unit {0})
any r x e = tt

-- what is known to be read
gives_known : {X : Type 0} {r : Result X Refusal} (Q : X → Type 0) (x : X) → r ≡ Ok x → Q x → Gives r Q
gives_known Q x e q y f = let p : x ≡ y = cc in subst Q p q

module _ {L : ℕ} {R : Type 0} (k : Kind L R) (S n : ℕ) where
  abbrev IsNotice : ℕ → Parts R (List ℕ) → Type 0
  IsNotice v x = (mask : ℕ) × (seals : List ℕ) × (x ≡ Notice v mask seals)

  abbrev IsCertificate : Block R → Parts R (List ℕ) → Type 0
  IsCertificate b x = (c : Certificate R (List ℕ)) × (c.block ≡ b) × (x ≡ Certified c)

  notice_read : (total v : ℕ) (rest : List ℕ) → v < 2 ^ 16 → Gives (read_notice k S n total (spell 2 v ++ rest)) (IsNotice v)
  notice_read total v rest small =
      gives_next {Q = IsNotice v} (peel_number 2 1 (spell 2 v ++ rest)) _
      (gives_known (λ (x : ℕ × List ℕ). x.0 ≡ v) (v, rest) (number_forth 2 1 v rest small) refl) (λ view e.
      gives_next {Q = IsNotice v} (peel_mask n 3 view.1) _ (any _) (λ mask _.
      gives_next {Q = IsNotice v} (peel_seals S (quorum n) 5 mask.1) _ (any _) (λ seals _.
      gives_ended (IsNotice v) total (Notice view.0 mask.0 seals.0, seals.1) (mask.0, seals.0, ap (λ u. Notice u mask.0 seals.0) e))))

  body_read : (at : ℕ) (b : Block R) (rest : List ℕ) → LawfulBlock k b →
      Gives (peel_body k S n at (block_bytes k b ++ rest)) (λ c. c.0.block ≡ b)
  body_read at b rest lawful =
      gives_next {Q = λ c. c.0.block ≡ b} _ _
      (gives_known (λ (x : Block R × List ℕ). x.0 ≡ b) (b, rest) (block_forth k S n at b rest lawful) refl) (λ block e.
      gives_next {Q = λ c. c.0.block ≡ b} (peel_mask n (at + 12 + L) block.1) _ (any _) (λ mask _.
      gives_next {Q = λ c. c.0.block ≡ b} (peel_seals S (quorum n) (at + 14 + L) mask.1) _ (any _) (λ seals _.
      gives_ok (λ c. c.0.block ≡ b) _ e)))

  certificate_read : (total : ℕ) (b : Block R) (rest : List ℕ) → LawfulBlock k b →
      Gives (read_certified k S n total (block_bytes k b ++ rest)) (IsCertificate b)
  certificate_read total b rest lawful =
      gives_next {Q = IsCertificate b} (peel_body k S n 1 (block_bytes k b ++ rest)) _ (body_read 1 b rest lawful) (λ c e.
      gives_next {Q = IsCertificate b} (ended total c) _ (gives_ended (λ x. x.block ≡ b) total c e) (λ body f.
      gives_ok (IsCertificate b) _ (body, f, refl)))

  -- the bytes of a notice are read as a notice of its view, if at all
  pub notice-reads : (v mask : ℕ) (seals : List ℕ) → v < 2 ^ 16 → Gives (read_parts k S n (message_bytes k (Notice v mask seals))) (IsNotice v)
  unfolding read_parts
  notice-reads v mask seals small =
      notice_read (1 + length (spell 2 v ++ (spell 2 mask ++ seals))) v (spell 2 mask ++ seals) small

  -- so are those of a certificate
  pub certificate-reads : (c : Certificate R (List ℕ)) → LawfulBlock k c.block →
      Gives (read_parts k S n (message_bytes k (Certified c))) (IsCertificate c.block)
  unfolding read_parts
  certificate-reads c lawful = certificate_read _ c.block _ lawful

module _ {L : ℕ} {R : Type 0} (S : ℕ) (k : Kind L R) (w : Setting) where
  pub as_notice-written : (v mask : ℕ) (seals : List ℕ) → v < 65535 → AsNotice S k w v (message_bytes k (Notice v mask seals))
  as_notice-written v mask seals small = notice-reads k S w.n v mask seals (let l : v < 2 ^ 16 = omega arith in l)

  pub as_notice_relayed : (inbox : List ℕ) (v mask : ℕ) (seals : List ℕ) → read_parts k S w.n inbox ≡ Ok (Notice v mask seals) → AsNotice S k w v inbox
  as_notice_relayed inbox v mask seals e = gives_known (IsNotice k S w.n v) (Notice v mask seals) e (mask, seals, refl)

  pub as_certificate-written : (c : Certificate R (List ℕ)) → LawfulBlock k c.block → AsCertificate S k w c.block (message_bytes k (Certified c))
  as_certificate-written c lawful = certificate-reads k S w.n c lawful

  pub as_certificate_relayed : (inbox : List ℕ) (c : Certificate R (List ℕ)) → read_parts k S w.n inbox ≡ Ok (Certified c) → AsCertificate S k w c.block inbox
  as_certificate_relayed inbox c e = gives_known (IsCertificate k S w.n c.block) (Certified c) e (c, refl, refl)
