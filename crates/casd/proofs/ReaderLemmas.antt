-- A buffered reader that has read nothing.
use Rattle.std.proofs.Common.{◌≡◌, ◌==◌, ℕ, List, [], Option, None, Some, if◌then◌else◌, refl, ap, ◌∙◌}
use Rattle.std.specs.Io.Buffered.{reader_buffer, reader_capacity, reader_inner, reader_remaining}
use Rattle.std.specs.Io.KnownBytes.{prepend_known}
use Rattle.std.specs.declared.io.buffered.BufReader.{BufReader}
use Rattle.casd.proofs.CutLemmas.{Known}

-- it has what its reader has
prepend_nothing : (known : Known) → prepend_known [] known ≡ known
prepend_nothing None = refl
prepend_nothing (Some xs) = refl

pub fresh_reader : {T A : Type 0} (remaining : T → Known) (r : BufReader T A) (inner : T) → reader_inner r ≡ inner →
    reader_buffer r ≡ [] → reader_capacity r ≡ 65_536 → reader_remaining remaining r ≡ remaining inner
fresh_reader {T = T} remaining r inner is empty size = go (reader_capacity r) (reader_buffer r) (reader_inner r) size empty is
  where
    go : (n : ℕ) (bytes : List ℕ) (t : T) → n ≡ 65_536 → bytes ≡ [] → t ≡ inner →
        (if n == 0 then None else prepend_known bytes (remaining t)) ≡ remaining inner
    go n bytes t p q s =
        ap (λ (m : ℕ). if m == 0 then None else prepend_known bytes (remaining t)) p
        ∙ ap (λ (b : List ℕ). prepend_known b (remaining t)) q ∙ prepend_nothing (remaining t) ∙ ap remaining s
