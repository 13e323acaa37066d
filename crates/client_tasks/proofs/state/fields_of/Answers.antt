use Rattle.client_tasks.proofs.Lines.{one_part, two_parts, three_parts, no_size, no_time}
use Rattle.client_tasks.proofs.state.fields_of.Goals as goal

pub returns-in_default : goal.returns-in_default
returns-in_default c size time path cap are = one_part c.args.line.now size time path cap c.in_default.ensures are

pub returns-in_default-split_at_byte : goal.returns-in_default-split_at_byte
returns-in_default-split_at_byte c size time path cap are = two_parts c.args.line.now c.in-Some.size.now c.in-Some.rest.now size time path cap c.in-Some.ensures c.in_default-split_at_byte.ensures are

pub returns-in_default-split_at_byte-2 : goal.returns-in_default-split_at_byte-2
returns-in_default-split_at_byte-2 c size time path cap are =
    three_parts c.args.line.now c.in-Some.size.now c.in-Some.rest.now c.in-Some-split_at_byte.time.now c.in-Some-split_at_byte.rest.now size time path cap c.in-Some.ensures c.in-Some-split_at_byte.ensures c.in_default-split_at_byte-2.ensures are

pub returns-in_default-read_number : goal.returns-in_default-read_number
returns-in_default-read_number c size time path cap are =
    no_size c.numbers_have_one_text.ensures c.args.line.now c.in-Some.size.now c.in-Some.rest.now size time path cap c.in-Some.ensures c.in_default-read_number.ensures.number are

pub returns-in_default-read_number-2 : goal.returns-in_default-read_number-2
returns-in_default-read_number-2 c size time path cap are =
    no_time c.numbers_have_one_text.ensures c.args.line.now c.in-Some.size.now c.in-Some.rest.now c.in-Some-split_at_byte.time.now c.in-Some-split_at_byte.rest.now size time path cap
    c.in-Some.ensures c.in-Some-split_at_byte.ensures c.in_default-read_number-2.ensures.number are
