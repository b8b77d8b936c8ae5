use Rattle.std.proofs.Common.{subst}
use Rattle.driver.specs.Rounds.{MakesRound}
use Rattle.driver.proofs.LimitRefusalLemmas.{err_of}
use Rattle.driver.proofs.StepRefusalLemmas.{number_refused}
use Rattle.driver.proofs.TurnLemmas.{stepped_turn, encode_turn, encode_refused, decode_turn, decode_refused}
use Rattle.driver.proofs.TurnLemmas.{encode_ready, decode_ready}
use Rattle.driver.proofs.driver.make_turn.Goals as goal

pub returns-in-Stepped-clause-turn : goal.returns-in-Stepped-clause-turn
returns-in-Stepped-clause-turn g c =
    stepped_turn g.C.Chooser.chooses c.args.name.now c.args.call c.args.asks_again c.args.cluster.now c.args.chooser.now
    c.make_round_at.new.cluster c.make_round_at.new.chooser
    c.in_ok-make_round_at.field-0 c.in-Stepped.is c.in_ok-make_round_at.ensures.round

pub returns-in_ok-supply_value-in-Encode-clause-turn : goal.returns-in_ok-supply_value-in-Encode-clause-turn
returns-in_ok-supply_value-in-Encode-clause-turn g c =
    encode_turn g.C.Chooser.chooses c.args.name.now c.args.call c.args.asks_again c.args.cluster.now c.args.chooser.now
    c.make_round_at.new.cluster c.make_round_at.new.chooser
    c.in_ok-make_round_at.field-0 c.in_ok-make_round_at.ensures.round c.in-Encode.value c.in-Encode.k c.in-Encode.n
    c.supply_value.new.cluster c.in-Encode.is
    c.in_ok-supply_value-in-Encode.ensures.cause c.in_ok-supply_value-in-Encode.ensures.may
    c.in_ok-supply_value-in-Encode.ensures.step

pub returns-in_err-supply_value-in-Encode-clause-refused : goal.returns-in_err-supply_value-in-Encode-clause-refused
returns-in_err-supply_value-in-Encode-clause-refused g c =
    err_of _ _ _ c.from_residual-in_err-supply_value-in-Encode.ensures.1
    (encode_refused g.C.Chooser.chooses c.args.name.now c.args.call c.args.asks_again c.args.cluster.now c.args.chooser.now
    c.make_round_at.new.cluster c.make_round_at.new.chooser
    c.in_ok-make_round_at.field-0 c.in_ok-make_round_at.ensures.round c.in-Encode.value c.in-Encode.k c.in-Encode.n
    c.in_err-supply_value-in-Encode.field-0.0 c.in-Encode.is
    c.in_err-supply_value-in-Encode.ensures.cause)

pub returns-in_ok-settle_pieces-in-Decode-clause-turn : goal.returns-in_ok-settle_pieces-in-Decode-clause-turn
returns-in_ok-settle_pieces-in-Decode-clause-turn g c =
    decode_turn g.C.Chooser.chooses c.args.name.now c.args.call c.args.asks_again c.args.cluster.now c.args.chooser.now
    c.make_round_at.new.cluster c.make_round_at.new.chooser
    c.in_ok-make_round_at.field-0 c.in_ok-make_round_at.ensures.round c.in-Decode.pieces c.in-Decode.k c.in-Decode.len
    c.settle_pieces.new.cluster c.in-Decode.is
    c.in_ok-settle_pieces-in-Decode.ensures.cause c.in_ok-settle_pieces-in-Decode.ensures.step

pub returns-in_err-settle_pieces-in-Decode-clause-refused : goal.returns-in_err-settle_pieces-in-Decode-clause-refused
returns-in_err-settle_pieces-in-Decode-clause-refused g c =
    err_of _ _ _ c.from_residual-in_err-settle_pieces-in-Decode.ensures.1
    (decode_refused g.C.Chooser.chooses c.args.name.now c.args.call c.args.asks_again c.args.cluster.now c.args.chooser.now
    c.make_round_at.new.cluster c.make_round_at.new.chooser
    c.in_ok-make_round_at.field-0 c.in_ok-make_round_at.ensures.round c.in-Decode.pieces c.in-Decode.k c.in-Decode.len
    c.in_err-settle_pieces-in-Decode.field-0.0 c.in-Decode.is
    c.in_err-settle_pieces-in-Decode.ensures.cause)

pub returns-in_err-want-clause-refused : goal.returns-in_err-want-clause-refused
returns-in_err-want-clause-refused g c =
    err_of _ _ _ c.from_residual.ensures.1
    (number_refused g.C.Chooser.chooses c.args.name.now c.args.call c.args.cluster.now c.args.asks_again c.args.chooser.now
    c.in_err-want.field-0.0 c.in_err-want.ensures.cause)

pub make_round_at-requires-clause-wanted : goal.make_round_at-requires-clause-wanted
make_round_at-requires-clause-wanted g c = c.in_ok-want.ensures.want

pub returns-in_err-make_round_at-clause-refused : goal.returns-in_err-make_round_at-clause-refused
returns-in_err-make_round_at-clause-refused g c =
    err_of _ _ _ c.from_residual-in_err-make_round_at.ensures.1 c.in_err-make_round_at.ensures.refused

pub supply_value-requires-clause-value : goal.supply_value-requires-clause-value
supply_value-requires-clause-value g c =
    encode_ready g.C.Chooser.chooses c.args.name.now c.args.call c.args.asks_again c.args.cluster.now c.args.chooser.now
    c.make_round_at.new.cluster c.make_round_at.new.chooser
    c.in_ok-make_round_at.field-0 c.in_ok-make_round_at.ensures.round c.in-Encode.value c.in-Encode.k c.in-Encode.n c.in-Encode.is

pub settle_pieces-requires-clause-pieces : goal.settle_pieces-requires-clause-pieces
settle_pieces-requires-clause-pieces g c =
    decode_ready g.C.Chooser.chooses c.args.name.now c.args.call c.args.asks_again c.args.cluster.now c.args.chooser.now
    c.make_round_at.new.cluster c.make_round_at.new.chooser
    c.in_ok-make_round_at.field-0 c.in_ok-make_round_at.ensures.round c.in-Decode.pieces c.in-Decode.k c.in-Decode.len c.in-Decode.is

pub returns-in-Answered-clause-turn : goal.returns-in-Answered-clause-turn
returns-in-Answered-clause-turn g c =
    subst (MakesRound g.C.Chooser.chooses c.args.name.now c.args.call c.args.asks_again c.args.cluster.now c.args.chooser.now
    c.make_round_at.new.cluster c.make_round_at.new.chooser) c.in-Answered.is c.in_ok-make_round_at.ensures.round
