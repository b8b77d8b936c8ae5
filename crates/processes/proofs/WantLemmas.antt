-- What a node wants before the first record that its log will lack.
use Rattle.std.proofs.Common.{◌≡◌, ◌≤◌, ◌+◌, ℕ, zero, suc, Bool, true, false, cond, eqb, eq-eqb, List, [], ◌∷◌, ◌++◌}
use Rattle.std.proofs.Common.{length, take, refl, sym, ap, ◌∙◌, arith}
use Rattle.std.specs.List.{AllByRecursion}
use Rattle.deeds.specs.Named.{NamedLetter as Named, IsOneOf}
use Rattle.open_calls.proofs.ListLemmas.{all_weaker}
use Rattle.node_strings.specs.Strings.{Strings}
use Rattle.node_effects.specs.Seen.{named_of}
use Rattle.node_effects.specs.declared.output.Output.{Output}
use Rattle.node_effects.specs.declared.output.Output.TheVariants as output
use Rattle.node_keeper.specs.Fitting.{IsSendable}
use Rattle.node_keeper.specs.Sendings.{frame_to, letters_of}
use Rattle.recoveries.specs.Stops.{logged_in}
use Rattle.node_keeper.specs.Wants.{Want, left_by, outputs_of, records_in, sends_in}
use Rattle.processes.specs.Letters.{IsCarried}
use Rattle.processes.specs.Processes.{WaitingFrame, frames_behind}

pub carried_among : (letters more : List Named) → ((letter : Named) → IsOneOf letters letter → IsOneOf more letter) →
    (frame : Strings) → IsCarried letters frame → IsCarried more frame
carried_among letters more among frame is = record {
  digest = is.digest;
  send = is.send;
  whole = is.whole;
  message = is.message;
  one = among (named_of is.send.it) is.one;
}

-- what is wanted before the record with this number
abbrev pub until : (count : ℕ) → List Want → List Want
until count [] = []
until zero (Want.Logs it ∷ wants) = []
until (suc count) (Want.Logs it ∷ wants) = Want.Logs it ∷ until count wants
until count (Want.Sends send ∷ wants) = Want.Sends send ∷ until count wants

pub until_front : (count : ℕ) (wants : List Want) → (rest : List Want) × (wants ≡ until count wants ++ rest)
until_front count [] = ([], refl)
until_front zero (Want.Logs it ∷ wants) = (Want.Logs it ∷ wants, refl)
until_front (suc count) (Want.Logs it ∷ wants) =
    let front = until_front count wants in (front.0, ap (λ ws. Want.Logs it ∷ ws) front.1)
until_front count (Want.Sends send ∷ wants) =
    let front = until_front count wants in (front.0, ap (λ ws. Want.Sends send ∷ ws) front.1)

pub until_records : (count : ℕ) (wants : List Want) → records_in (until count wants) ≡ take count (records_in wants)
until_records zero [] = refl
until_records (suc count) [] = refl
until_records zero (Want.Logs it ∷ wants) = refl
until_records (suc count) (Want.Logs it ∷ wants) = ap (λ rs. it ∷ rs) (until_records count wants)
until_records zero (Want.Sends send ∷ wants) = until_records zero wants
until_records (suc count) (Want.Sends send ∷ wants) = until_records (suc count) wants

pub until_all : (count : ℕ) (wants : List Want) → length (records_in wants) ≤ count → until count wants ≡ wants
until_all count [] le = refl
until_all zero (Want.Logs it ∷ wants) le = absurd (omega arith)
until_all (suc count) (Want.Logs it ∷ wants) le = ap (λ ws. Want.Logs it ∷ ws) (until_all count wants (omega arith))
until_all zero (Want.Sends send ∷ wants) le = ap (λ ws. Want.Sends send ∷ ws) (until_all zero wants le)
until_all (suc count) (Want.Sends send ∷ wants) le = ap (λ ws. Want.Sends send ∷ ws) (until_all (suc count) wants le)

-- a frame waits behind at least so many entries, and at most so many more; and it has one of these letters, unless it
-- waits behind more than `count` of these
pub record WaitsBetween (entries more count : ℕ) (letters : List Named) (waiting : WaitingFrame) : Type 0 where
  pub least : entries ≤ waiting.behind
  pub most : waiting.behind ≤ entries + more
  pub carried : waiting.behind ≤ entries + count → IsCarried letters waiting.frame

-- the frames of what a node wants
pub frames_wait : (number : ℕ) (digest : List ℕ) (entries count : ℕ) (wants : List Want) →
    AllByRecursion (IsSendable number digest) (sends_in wants) →
    AllByRecursion (WaitsBetween entries (length (records_in wants)) count (letters_of (sends_in (until count wants))))
    (frames_behind entries (outputs_of number digest wants))
frames_wait number digest entries count [] fits = tt
frames_wait number digest entries zero (Want.Logs it ∷ wants) fits =
    all_weaker (WaitsBetween (suc entries) (length (records_in wants)) zero (letters_of (sends_in (until zero wants))))
    (WaitsBetween entries (suc (length (records_in wants))) zero [])
    (λ waiting is. let least = is.least in let most = is.most in record {
      least = omega arith;
      most = omega arith;
      carried = λ early. absurd (omega arith);
    })
    (frames_behind (suc entries) (outputs_of number digest wants)) (frames_wait number digest (suc entries) zero wants fits)
frames_wait number digest entries (suc count) (Want.Logs it ∷ wants) fits =
    all_weaker (WaitsBetween (suc entries) (length (records_in wants)) count (letters_of (sends_in (until count wants))))
    (WaitsBetween entries (suc (length (records_in wants))) (suc count) (letters_of (sends_in (until count wants))))
    (λ waiting is. let least = is.least in let most = is.most in record {
      least = omega arith;
      most = omega arith;
      carried = λ early. is.carried (omega arith);
    })
    (frames_behind (suc entries) (outputs_of number digest wants)) (frames_wait number digest (suc entries) count wants fits)
frames_wait number digest entries count (Want.Sends send ∷ wants) fits =
    go (eqb send.to number) refl (there (frames_wait number digest entries count wants fits.1))
  where
    more : ℕ
    more = length (records_in wants)

    letters : List Named
    letters = letters_of (sends_in (until count wants))

    outputs : List Output
    outputs = outputs_of number digest wants

    there : AllByRecursion (WaitsBetween entries more count letters) (frames_behind entries outputs) →
        AllByRecursion (WaitsBetween entries more count (named_of send.it ∷ letters)) (frames_behind entries outputs)
    there rest = all_weaker (WaitsBetween entries more count letters) (WaitsBetween entries more count (named_of send.it ∷ letters))
        (λ waiting is. record {
          least = is.least;
          most = is.most;
          carried = λ early. carried_among letters (named_of send.it ∷ letters) (λ letter one. (suc one.0, one.1)) waiting.frame
              (is.carried early);
        })
        (frames_behind entries outputs) rest

    go : (b : Bool) → eqb send.to number ≡ b →
        AllByRecursion (WaitsBetween entries more count (named_of send.it ∷ letters)) (frames_behind entries outputs) →
        AllByRecursion (WaitsBetween entries more count (named_of send.it ∷ letters))
        (frames_behind entries (cond b outputs (output.Send (frame_to digest send) ∷ outputs)))
    go true e rest = rest
    go false e rest = (
      record {
        least = omega arith;
        most = omega arith;
        carried = λ early. record {
          digest = digest;
          send = send;
          whole = refl;
          message = (fits.0 (λ same. absurd (let wrong : false ≡ true = sym e ∙ eq-eqb send.to number same in cc))).message;
          one = (0, refl);
        };
      },
      rest,
    )

-- the records among what is wanted
pub wanted_records : (wants : List Want) → logged_in (left_by wants) ≡ records_in wants
wanted_records [] = refl
wanted_records (Want.Logs it ∷ wants) = ap (λ rs. it ∷ rs) (wanted_records wants)
wanted_records (Want.Sends send ∷ wants) = wanted_records wants
