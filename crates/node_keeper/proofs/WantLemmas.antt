-- Records and letters in the order in which a node wants them.
use Rattle.std.proofs.Common.{◌≡◌, ℕ, Bool, true, false, cond, ◌==◌, List, [], ◌∷◌, ◌++◌, map, refl, ap}
use Rattle.recoveries.specs.Records.{LogRecord}
use Rattle.recoveries.specs.Stops.{Output as Left, logged_first, sent_in}
use Rattle.node_effects.specs.Seen.{named_of}
use Rattle.node_effects.specs.Work.{log_all, send_all}
use Rattle.node_effects.specs.declared.output.Output.TheVariants as output
use Rattle.node_keeper.specs.Logging.{log_entry_of}
use Rattle.node_keeper.specs.Sendings.{Sending, frame_to, letters_of, posted}
use Rattle.node_keeper.specs.Wants.{Want, left_by, outputs_of, records_in, sends_in}

-- One after another

pub records_append : (xs ys : List Want) → records_in (xs ++ ys) ≡ records_in xs ++ records_in ys
records_append [] ys = refl
records_append (Want.Logs it ∷ xs) ys = ap (λ zs. it ∷ zs) (records_append xs ys)
records_append (Want.Sends send ∷ xs) ys = records_append xs ys

pub sends_append : (xs ys : List Want) → sends_in (xs ++ ys) ≡ sends_in xs ++ sends_in ys
sends_append [] ys = refl
sends_append (Want.Logs it ∷ xs) ys = sends_append xs ys
sends_append (Want.Sends send ∷ xs) ys = ap (λ zs. send ∷ zs) (sends_append xs ys)

pub left_append : (xs ys : List Want) → left_by (xs ++ ys) ≡ left_by xs ++ left_by ys
left_append [] ys = refl
left_append (Want.Logs it ∷ xs) ys = ap (λ zs. Left.Logs it ∷ zs) (left_append xs ys)
left_append (Want.Sends send ∷ xs) ys = ap (λ zs. Left.Sends (named_of send.it) ∷ zs) (left_append xs ys)

pub outputs_append : (number : ℕ) (digest : List ℕ) (xs ys : List Want) →
    outputs_of number digest (xs ++ ys) ≡ outputs_of number digest xs ++ outputs_of number digest ys
outputs_append number digest [] ys = refl
outputs_append number digest (Want.Logs it ∷ xs) ys =
    ap (λ zs. output.Log (log_entry_of digest it) ∷ zs) (outputs_append number digest xs ys)
outputs_append number digest (Want.Sends x ∷ xs) ys = go (x.to == number) (outputs_append number digest xs ys)
  where
    go : (b : Bool) → outputs_of number digest (xs ++ ys) ≡ outputs_of number digest xs ++ outputs_of number digest ys →
        cond b (outputs_of number digest (xs ++ ys)) (output.Send (frame_to digest x) ∷ outputs_of number digest (xs ++ ys)) ≡
        cond b (outputs_of number digest xs) (output.Send (frame_to digest x) ∷ outputs_of number digest xs)
        ++ outputs_of number digest ys
    go true e = e
    go false e = ap (λ zs. output.Send (frame_to digest x) ∷ zs) e

-- the letters that leave the node are those that it wants to send
pub left_sent : (wants : List Want) → sent_in (left_by wants) ≡ letters_of (sends_in wants)
left_sent [] = refl
left_sent (Want.Logs it ∷ wants) = left_sent wants
left_sent (Want.Sends send ∷ wants) = ap (λ zs. named_of send.it ∷ zs) (left_sent wants)

-- First records, and then letters

abbrev pub in_order : List LogRecord → List Sending → List Want
in_order [] sends = map (λ send. Want.Sends send) sends
in_order (it ∷ records) sends = Want.Logs it ∷ in_order records sends

pub records_ordered : (records : List LogRecord) (sends : List Sending) → records_in (in_order records sends) ≡ records
records_ordered [] [] = refl
records_ordered [] (send ∷ sends) = records_ordered [] sends
records_ordered (it ∷ records) sends = ap (λ zs. it ∷ zs) (records_ordered records sends)

pub sends_ordered : (records : List LogRecord) (sends : List Sending) → sends_in (in_order records sends) ≡ sends
sends_ordered [] [] = refl
sends_ordered [] (send ∷ sends) = ap (λ zs. send ∷ zs) (sends_ordered [] sends)
sends_ordered (it ∷ records) sends = sends_ordered records sends

pub left_ordered : (records : List LogRecord) (sends : List Sending) →
    left_by (in_order records sends) ≡ logged_first records (letters_of sends)
left_ordered [] [] = refl
left_ordered [] (send ∷ sends) = ap (λ zs. Left.Sends (named_of send.it) ∷ zs) (left_ordered [] sends)
left_ordered (it ∷ records) sends = ap (λ zs. Left.Logs it ∷ zs) (left_ordered records sends)

pub outputs_ordered : (number : ℕ) (digest : List ℕ) (records : List LogRecord) (sends : List Sending) →
    outputs_of number digest (in_order records sends) ≡
    log_all (map (log_entry_of digest) records) ++ send_all (posted number digest sends)
outputs_ordered number digest [] [] = refl
outputs_ordered number digest [] (x ∷ sends) = go (x.to == number) (outputs_ordered number digest [] sends)
  where
    go : (b : Bool) → outputs_of number digest (in_order [] sends) ≡ send_all (posted number digest sends) →
        cond b (outputs_of number digest (in_order [] sends))
        (output.Send (frame_to digest x) ∷ outputs_of number digest (in_order [] sends)) ≡
        send_all (cond b (posted number digest sends) (frame_to digest x ∷ posted number digest sends))
    go true e = e
    go false e = ap (λ zs. output.Send (frame_to digest x) ∷ zs) e
outputs_ordered number digest (it ∷ records) sends =
    ap (λ zs. output.Log (log_entry_of digest it) ∷ zs) (outputs_ordered number digest records sends)
