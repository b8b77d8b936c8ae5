-- Entries of a log, and the bytes of each: a head of 16 bytes, and a body.
use Rattle.std.specs.Prelude.{◌≡◌, ◌<◌, ◌+◌, ◌*◌, ◌/◌, ◌%◌, ◌^◌, ◌++◌, ℕ, List, [], ◌∷◌, length, take, drop, bit_xor, ⊤}
use Rattle.std.specs.Int.{w32, w64, to_be_bytes, from_be_bytes}
use Rattle.node_log.specs.Crc32c.{crc32c, after_bytes, all_bits}
use Rattle.frames.specs.Frame.{IsFrame, IsNoFrame, frame_bytes}
use Rattle.frames.specs.declared.error.FrameError.{FrameError}
use Rattle.frames.specs.declared.error.FrameError.TheVariants as errors

-- the digest of bytes: their CRC-32C as four bytes, high byte first
unfoldable pub digest_of : List ℕ → List ℕ
digest_of bytes = to_be_bytes w32 (crc32c bytes)

-- the digest of bytes whose CRC-32C goes on from a given state: four bytes, high byte first
unfoldable pub digest_behind : ℕ → List ℕ → List ℕ
digest_behind state bytes = to_be_bytes w32 (bit_xor (after_bytes state bytes) all_bits)

-- the form of entries, which is the first byte of each head; those of form 1 begin with 0, and those of forms 2 to 4
-- with 2 to 4
abbrev pub form : ℕ
form = 5

-- what a head says of a body: the form and the length, as eight bytes, high byte first, and the digest
unfoldable pub described : List ℕ → List ℕ
described body = to_be_bytes w64 (form * 2 ^ 56 + length body) ++ digest_of body

-- the chain at the beginning of a log: the state with which the check begins
abbrev pub first_chain : ℕ
first_chain = all_bits

-- the chain after an entry: the state of the check after what the heads say of all bodies so far
unfoldable pub chain_after : ℕ → List (List ℕ) → ℕ
chain_after chain strings = after_bytes chain (described (frame_bytes strings))

-- the chain after several entries, one after another
abbrev pub chain_behind : ℕ → List (List (List ℕ)) → ℕ
chain_behind chain [] = chain
chain_behind chain (entry ∷ entries) = chain_behind (chain_after chain entry) entries

-- the head of a body: what it says of the body, and the digest of what all heads say up to this one
abbrev pub head_of : ℕ → List ℕ → List ℕ
head_of chain body = described body ++ digest_behind chain (described body)

-- the bytes of an entry: the head of its body, and the body, which is the frame of its strings
abbrev pub log_entry_bytes : ℕ → List (List ℕ) → List ℕ
log_entry_bytes chain strings = head_of chain (frame_bytes strings) ++ frame_bytes strings

-- the form, as a head says
abbrev pub form_in : List ℕ → ℕ
form_in head = from_be_bytes w64 (take 8 head) / 2 ^ 56

-- the length of the body, as a head says
abbrev pub length_in : List ℕ → ℕ
length_in head = from_be_bytes w64 (take 8 head) % 2 ^ 56

-- the digest of the body, as a head says
abbrev pub digest_in : List ℕ → List ℕ
digest_in head = take 4 (drop 8 head)

-- these are the bytes of a head behind this chain: there are 16, they are of this form, and the last four are the
-- digest of the others, which goes on from the chain
pub record IsHead (chain : ℕ) (head : List ℕ) : Type 0 where
  pub whole : length head ≡ 16
  pub has_form : form_in head ≡ form
  pub digest : digest_behind chain (take 12 head) ≡ drop 12 head

-- these are the bytes of the first head of an older form: its digest begins anew, as in form 1 that of each head did
pub record IsOldHead (head : List ℕ) : Type 0 where
  pub whole : length head ≡ 16
  pub has_form : form_in head < form
  pub digest : digest_of (take 12 head) ≡ drop 12 head

-- strings become an entry exactly if they are those of a frame
abbrev pub IsEntry : List (List ℕ) → Type 0
IsEntry strings = IsFrame strings

-- why strings become no entry: they are no frame, or memory is refused
abbrev pub IsNoEntry : List (List ℕ) → FrameError → Type 0
IsNoEntry strings (errors.Fault fault) = IsNoFrame strings fault
IsNoEntry strings errors.NoMemory = ⊤
IsNoEntry strings (errors.Failed error) = ⊥

-- what a contract sees of the entry of some strings: the strings
abbrev pub sealed : List (List ℕ) → List (List ℕ)
sealed strings = strings
