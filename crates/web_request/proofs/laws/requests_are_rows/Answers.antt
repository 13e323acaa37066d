use Rattle.web_request.proofs.TableLemmas.{row_given, given_row}
use Rattle.web_request.proofs.laws.requests_are_rows.Goals as goal

pub returns : goal.returns
returns c = λ head body request. (
  row_given c.reading_is_decided.ensures.read head body request,
  given_row c.reading_is_decided.ensures.read head body request,
)
