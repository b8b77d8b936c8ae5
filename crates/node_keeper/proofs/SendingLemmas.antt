-- Letters that go out one after another.
use Rattle.std.proofs.Common.{◌≡◌, inl, inr, ℕ, Bool, true, false, cond, ◌==◌, List, [], ◌∷◌, ◌++◌, Some, refl, sym, ap, ◌∙◌}
use Rattle.std.proofs.lemmas.List.{map-append}
use Rattle.std.specs.List.{AllByRecursion}
use Rattle.deeds.specs.Named.{NamedLetter as Named, IsOneOf, with_names}
use Rattle.letter.specs.declared.letter.Letter.{Letter}
use Rattle.node_effects.specs.Seen.{named_of}
use Rattle.node_strings.specs.Strings.{Strings}
use Rattle.node_effects.specs.Work.{IsGrown, both_grown, no_growth, send_all}
use Rattle.node_effects.specs.declared.output.Output.{Output}
use Rattle.node_effects.specs.declared.output.Output.TheVariants as output
use Rattle.node_effects.specs.declared.work.Work.{Work}
use Rattle.node_effects.proofs.GrowthLemmas.{grown_as, grown_then}
use Rattle.letter.specs.declared.letter.NamedLetter.{NamedLetter}
use Rattle.node_keeper.specs.Sendings.{IsDirected, Sending, asked, frame_to, going, letters_of, member_or, posted, reply_sendings, sending}
use Rattle.node_keeper.specs.Sendings.{sent_growth, to_itself, to_one}
use Rattle.node_keeper.proofs.RequestLemmas.{Asks, RepliesTo}

pub letters_append : (xs ys : List Sending) → letters_of (xs ++ ys) ≡ letters_of xs ++ letters_of ys
letters_append xs ys = map-append (λ (send : Sending). named_of send.it) xs ys

pub posted_append : (number : ℕ) (digest : List ℕ) (xs ys : List Sending) →
    posted number digest (xs ++ ys) ≡ posted number digest xs ++ posted number digest ys
posted_append number digest [] ys = refl
posted_append number digest (x ∷ xs) ys = go (x.to == number) (posted_append number digest xs ys)
  where
    go : (b : Bool) → posted number digest (xs ++ ys) ≡ posted number digest xs ++ posted number digest ys →
        cond b (posted number digest (xs ++ ys)) (frame_to digest x ∷ posted number digest (xs ++ ys)) ≡
        cond b (posted number digest xs) (frame_to digest x ∷ posted number digest xs) ++ posted number digest ys
    go true e = e
    go false e = ap (λ zs. frame_to digest x ∷ zs) e

pub to_itself_append : (number : ℕ) (xs ys : List Sending) →
    to_itself number (xs ++ ys) ≡ to_itself number xs ++ to_itself number ys
to_itself_append number [] ys = refl
to_itself_append number (x ∷ xs) ys = go (x.to == number) (to_itself_append number xs ys)
  where
    go : (b : Bool) → to_itself number (xs ++ ys) ≡ to_itself number xs ++ to_itself number ys →
        cond b (x.it ∷ to_itself number (xs ++ ys)) (to_itself number (xs ++ ys)) ≡
        cond b (x.it ∷ to_itself number xs) (to_itself number xs) ++ to_itself number ys
    go true e = ap (λ zs. x.it ∷ zs) e
    go false e = e

pub sent_append : (number : ℕ) (digest : List ℕ) (xs ys : List Sending) →
    both_grown (sent_growth number digest xs) (sent_growth number digest ys) ≡ sent_growth number digest (xs ++ ys)
sent_append number digest xs ys =
    go _ _ _ _ (ap send_all (posted_append number digest xs ys)
    ∙ map-append (λ (frame : Strings). output.Send frame) (posted number digest xs) (posted number digest ys))
    (to_itself_append number xs ys)
  where
    go : (p q : List Output) (o r : List NamedLetter) → p ≡ q → o ≡ r →
        record no_growth { outputs = q; own = r } ≡ record no_growth { outputs = p; own = o }
    go p q o r e f = λ i. record no_growth { outputs = (sym e) i; own = (sym f) i }

pub asked_append : (number : ℕ) (name : List ℕ) (xs ys : List Letter) →
    asked number name (xs ++ ys) ≡ asked number name xs ++ asked number name ys
asked_append number name xs ys = map-append (λ letter. sending (member_or number letter) (record { name = name; letter = letter })) xs ys

pub going_letters : (to : Letter → ℕ) (name : List ℕ) (letters : List Letter) →
    letters_of (going to name letters) ≡ with_names name letters
going_letters to name [] = refl
going_letters to name (x ∷ xs) = ap (λ zs. record { name = name; letter = x } ∷ zs) (going_letters to name xs)

-- letters that are requests go to the nodes that they ask
pub asked_addressed : (number asker : ℕ) (got : List Named) (name : List ℕ) (letters : List Letter) → AllByRecursion Asks letters →
    AllByRecursion (IsDirected number asker got) (asked number name letters)
asked_addressed number asker got name [] asks = tt
asked_addressed number asker got name (x ∷ xs) asks =
    (inl (sym (ap (λ b. cond b (member_or number x) asker) asks.0)), asked_addressed number asker got name xs asks.1)

-- replies, and a request that is sent back, go to the node that asked
pub replied_addressed : (number asker : ℕ) (name : List ℕ) (came : Letter) (letters : List Letter) →
    AllByRecursion (RepliesTo came) letters →
    AllByRecursion (IsDirected number asker (record { name = name; letter = came } ∷ [])) (reply_sendings asker name letters)
replied_addressed number asker name came [] replies = tt
replied_addressed number asker name came (x ∷ xs) replies = (one replies.0, replied_addressed number asker name came xs replies.1)
  where
    one : RepliesTo came x →
        IsDirected number asker (record { name = name; letter = came } ∷ []) (sending asker (record { name = name; letter = x }))
    one (inl reply) = inl (sym (ap (λ b. cond b (member_or number x) asker) reply))
    one (inr back) =
        let named : Letter → Named = λ letter. record { name = name; letter = letter } in
        inr (inl ((back.0, (0, ap (λ letter. Some (named letter)) back.1)), refl))

-- a letter may go where it goes also if more letters had come
pub directed_more : (number asker : ℕ) (got more : List Named) →
    ((letter : Named) → IsOneOf got letter → IsOneOf more letter) → (send : Sending) → IsDirected number asker got send →
    IsDirected number asker more send
directed_more number asker got more among send (inl to) = inl to
directed_more number asker got more among send (inr (inl back)) =
    inr (inl
    ((back.0.0, among (record { name = send.it.name; letter = record send.it.letter { start = back.0.0 } }) back.0.1), back.1))
directed_more number asker got more among send (inr (inr next)) = inr (inr next)

-- one more letter goes out
pub asked_more : (number : ℕ) (digest name : List ℕ) (letters : List Letter) (letter : Letter) (before now after : Work) →
    IsGrown before now (sent_growth number digest (asked number name letters)) →
    IsGrown now after (sent_growth number digest (to_one (member_or number letter) (record { name = name; letter = letter }))) →
    IsGrown before after (sent_growth number digest (asked number name (letters ++ letter ∷ [])))
asked_more number digest name letters letter before now after first second =
    let one = to_one (member_or number letter) (record { name = name; letter = letter }) in
    grown_as before after
    (both_grown (sent_growth number digest (asked number name letters)) (sent_growth number digest one))
    (sent_growth number digest (asked number name (letters ++ letter ∷ [])))
    (grown_then before now after (sent_growth number digest (asked number name letters)) (sent_growth number digest one)
    first second)
    (sent_append number digest (asked number name letters) one
    ∙ ap (λ sends. sent_growth number digest sends) (sym (asked_append number name letters (letter ∷ []))))
