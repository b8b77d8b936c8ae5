use Rattle.node_messages.proofs.MessageLemmas.{message_again, message_ok, one_message}
use Rattle.node_messages.proofs.laws.messages_are_read_back.Goals as goal

pub returns-clause-written : goal.returns-clause-written
returns-clause-written c = message_again

pub returns-clause-read : goal.returns-clause-read
returns-clause-read c = message_ok

pub returns-clause-one : goal.returns-clause-one
returns-clause-one c = one_message
