-- What the entries of the log record, and what the objects of a node are once it has carried records out again.
use Rattle.std.proofs.Common.{◌≡◌, ◌≤◌, ◌+◌, if◌then◌else◌, ℕ, zero, suc, List, [], ◌∷◌, ◌++◌}
use Rattle.std.proofs.Common.{None, false, length, take, drop, refl, ap, ◌∙◌, arith}
use Rattle.std.proofs.lemmas.List.{take_all}
use Rattle.std.specs.List.{AllByRecursion}
use Rattle.layout.specs.Layout.{IsLawful}
use Rattle.encoder.specs.Fragment.{fragment}
use Rattle.bank.specs.declared.request.Request.TheVariants as request
use Rattle.mail.specs.declared.message.Body.TheVariants as body
use Rattle.mail.specs.declared.message.Message.{Message}
use Rattle.letter.specs.declared.letter.Letter.{Letter}
use Rattle.local_object.specs.Doing.{serve_events}
use Rattle.local_object.specs.Events.{all_done}
use Rattle.local_object.specs.Local.{LocalObject}
use Rattle.deeds.specs.Kept.{KeptNode}
use Rattle.deeds.specs.Named.{is_same_name, with_named}
use Rattle.recoveries.specs.Records.{LogRecord, Recovers, RecoversOne}
use Rattle.node_strings.specs.Laws.{WrittenRecordIsRead}
use Rattle.node_strings.specs.Strings.{Strings}
use Rattle.node_strings.specs.declared.record.Record.TheVariants as record_of
use Rattle.node_messages.specs.Laws.{WrittenMessageIsRead}
use Rattle.node_messages.specs.Message.{IsMessage}
use Rattle.node_messages.specs.Strings.{strings_of}
use Rattle.node_messages.specs.declared.message.NodeMessage.{NodeMessage}
use Rattle.node_keeper.specs.Logging.{deeds_if, letter_records, records_in}
use Rattle.processes.proofs.LogLemmas.{all_records, all_records_append, cluster_recorded, take_beyond}
use Rattle.example_tests.specs.Scripts.{three_nodes, to_keep, write_tag}
use Rattle.example_tests.specs.StoppedSync.{served_entry, some_digest, stopped_log, synced_entries, unsynced_entry}
use Rattle.example_tests.proofs.EventRunLemmas.{three_distinct}

-- Objects that serve letters again

-- what a node keeps of an object after it serves a letter, if it does
abbrev pub served : LocalObject → Letter → LocalObject
served local letter = (all_done fragment local (serve_events local letter)).local

-- what the objects are after a record that is a start or a served letter
abbrev pub object_after : LogRecord → (List ℕ → LocalObject) → List ℕ → LocalObject
object_after (LogRecord.Serves other letter) objects name = with_named objects other (served (objects other) letter) name
object_after it objects name = objects name

-- a record is a start or a served letter
abbrev pub IsPlain : LogRecord → Type 0
IsPlain LogRecord.Starts = Unit {0}
IsPlain (LogRecord.Serves name letter) = Unit {0}
IsPlain it = ⊥

-- what the objects are after these records
abbrev pub objects_after : List LogRecord → (List ℕ → LocalObject) → List ℕ → LocalObject
objects_after [] objects = objects
objects_after (it ∷ records) objects = objects_after records (object_after it objects)

one_carried : (it : LogRecord) → IsPlain it → (old new : KeptNode) → RecoversOne it old new → (objects : List ℕ → LocalObject) →
    ((name : List ℕ) → old.objects name ≡ objects name) → (name : List ℕ) → new.objects name ≡ object_after it objects name
one_carried LogRecord.Starts plain old new one objects same name = one.objects name ∙ same name
one_carried (LogRecord.Serves other letter) plain old new one objects same name =
    one.put.objects name
    ∙ ap (λ (l : LocalObject). if is_same_name other name then l else old.objects name)
    (one.done.local ∙ ap (λ (o : LocalObject). served o letter) (same other))
    ∙ ap (λ (o : LocalObject). if is_same_name other name then served (objects other) letter else o) (same name)
one_carried (LogRecord.Takes other letter) plain old new one objects same name = absurd plain
one_carried (LogRecord.Moves other id layout) plain old new one objects same name = absurd plain
one_carried (LogRecord.Hears other position layout) plain old new one objects same name = absurd plain
one_carried (LogRecord.Closes other position) plain old new one objects same name = absurd plain

pub records_carried : (records : List LogRecord) → AllByRecursion IsPlain records → (old new : KeptNode) → Recovers records old new →
    (objects : List ℕ → LocalObject) → ((name : List ℕ) → old.objects name ≡ objects name) → (name : List ℕ) →
    new.objects name ≡ objects_after records objects name
records_carried [] plain old new recovers objects same name = recovers.objects name ∙ same name
records_carried (it ∷ records) plain old new recovers objects same name =
    records_carried records plain.1 recovers.0 new recovers.2 (object_after it objects)
    (one_carried it plain.0 old recovers.0 recovers.1 objects same) name

-- What the entries record

abbrev pub letter_with : Message → Letter
letter_with message =
    record { layout = three_nodes; next = None; start = None; asks_piece = false; told = None; message = message }

abbrev pub named_message : (name : List ℕ) → Message → NodeMessage
named_message name message =
    record { digest = some_digest; named = record { name = name; letter = letter_with message } }

abbrev pub keep_message : (member : ℕ) → Message
keep_message member =
    record { call = 7; phase = 3; position = 0; member = member; body = body.Request (to_keep member) }

abbrev pub finalize_message : Message
finalize_message = record { call = 7; phase = 4; position = 0; member = 0; body = body.Request (request.Finalize write_tag) }

abbrev pub other_message : Message
other_message = record { call = 9; phase = 3; position = 0; member = 0; body = body.Request (to_keep 0) }

abbrev pub keeps : (member : ℕ) → LogRecord
keeps member = LogRecord.Serves (97 ∷ []) (letter_with (keep_message member))

abbrev pub finalizes : LogRecord
finalizes = LogRecord.Serves (97 ∷ []) (letter_with finalize_message)

abbrev pub keeps_other : LogRecord
keeps_other = LogRecord.Serves (98 ∷ []) (letter_with other_message)

three_lawful : IsLawful three_nodes
three_lawful =
    record { some = omega arith; enough = omega arith; few = (let few : 3 ≤ 255 = omega arith in few); distinct = three_distinct }

pub keep_is : (member : ℕ) → member ≤ 1 → IsMessage (named_message (97 ∷ []) (keep_message member))
keep_is member small = record {
  digest = refl;
  name = omega arith;
  layout = three_lawful;
  call = omega arith;
  phase = omega arith;
  position = omega arith;
  member = omega arith;
  body = ((omega arith, omega arith), (omega arith, omega arith));
  named = refl;
  next = tt;
  start = tt;
  role = refl;
  told = tt;
}

finalize_is : IsMessage (named_message (97 ∷ []) finalize_message)
finalize_is = record {
  digest = refl;
  name = omega arith;
  layout = three_lawful;
  call = omega arith;
  phase = omega arith;
  position = omega arith;
  member = omega arith;
  body = (omega arith, omega arith);
  named = refl;
  next = tt;
  start = tt;
  role = refl;
  told = tt;
}

other_is : IsMessage (named_message (98 ∷ []) other_message)
other_is = record {
  digest = refl;
  name = omega arith;
  layout = three_lawful;
  call = omega arith;
  phase = omega arith;
  position = omega arith;
  member = omega arith;
  body = ((omega arith, omega arith), (omega arith, omega arith));
  named = refl;
  next = tt;
  start = tt;
  role = refl;
  told = tt;
}

-- the records of the log, of which so many entries behind the synced ones are left
abbrev pub known_records : (more : ℕ) → List LogRecord
known_records zero = LogRecord.Starts ∷ keeps 0 ∷ finalizes ∷ []
known_records (suc more) = LogRecord.Starts ∷ keeps 0 ∷ finalizes ∷ keeps_other ∷ []

pub known_plain : (more : ℕ) → AllByRecursion IsPlain (known_records more)
known_plain zero = (tt, (tt, (tt, tt)))
known_plain (suc more) = (tt, (tt, (tt, (tt, tt))))

module _ (messages : WrittenMessageIsRead) (records : WrittenRecordIsRead) where
  pub served_recorded : (name : List ℕ) (message : Message) → IsMessage (named_message name message) →
      records_in (served_entry name message) ≡ LogRecord.Serves name (letter_with message) ∷ []
  served_recorded name message is =
      ap deeds_if (records (record_of.Serve (strings_of (named_message name message))) tt)
      ∙ ap (letter_records LogRecord.Serves) (messages (named_message name message) is)

  synced_recorded : all_records synced_entries ≡ LogRecord.Starts ∷ keeps 0 ∷ finalizes ∷ []
  synced_recorded =
      ap (λ (rs : List LogRecord). rs ++ all_records (drop 1 synced_entries)) (cluster_recorded some_digest 0)
      ∙ ap (λ (rs : List LogRecord). rs ++ all_records (drop 2 synced_entries)) (ap deeds_if (records record_of.Start tt))
      ∙ ap (λ (rs : List LogRecord). LogRecord.Starts ∷ (rs ++ all_records (drop 3 synced_entries)))
      (served_recorded (97 ∷ []) (keep_message 0) (keep_is 0 (omega arith)))
      ∙ ap (λ (rs : List LogRecord). LogRecord.Starts ∷ keeps 0 ∷ (rs ++ []))
      (served_recorded (97 ∷ []) finalize_message finalize_is)

  more_recorded : (more : ℕ) → (LogRecord.Starts ∷ keeps 0 ∷ finalizes ∷ []) ++ all_records (take more (unsynced_entry ∷ []))
      ≡ known_records more
  more_recorded zero = refl
  more_recorded (suc more) =
      ap (λ (es : List Strings). (LogRecord.Starts ∷ keeps 0 ∷ finalizes ∷ []) ++ (records_in unsynced_entry ++ all_records es))
      (take_all more [] (omega arith))
      ∙ ap (λ (rs : List LogRecord). (LogRecord.Starts ∷ keeps 0 ∷ finalizes ∷ []) ++ (rs ++ []))
      (served_recorded (98 ∷ []) other_message other_is)

  pub log_recorded : (more : ℕ) → all_records (take (length synced_entries + more) stopped_log) ≡ known_records more
  log_recorded more =
      ap all_records (take_beyond synced_entries (unsynced_entry ∷ []) more)
      ∙ all_records_append synced_entries (take more (unsynced_entry ∷ []))
      ∙ ap (λ (rs : List LogRecord). rs ++ all_records (take more (unsynced_entry ∷ []))) synced_recorded
      ∙ more_recorded more
