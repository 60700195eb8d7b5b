use Rattle.std.proofs.Common.{◌≡◌, ℕ, List, Some, None, Decides, Option}
use Rattle.std.proofs.lemmas.Slice.Eq.{bytes_eq-Decides}
use Rattle.seals.specs.House.{is_seal, house_seal}
use Rattle.seals.proofs.house.one_good_seal.Goals as goal

-- the seal that is there is the only one that is good
alone_good : (o : Option (List ℕ)) (x : List ℕ) → Decides (is_seal o x) (o ≡ Some x)
alone_good None x = (λ h. cc, λ h. cc)
alone_good (Some good) x =
    let d = bytes_eq-Decides good x in
    (λ h. let q = d.0 h in cc, λ h. let q : good ≡ x = cc in d.1 q)

pub returns : goal.returns
returns c keys seat statement seal = alone_good (house_seal keys seat statement) seal
