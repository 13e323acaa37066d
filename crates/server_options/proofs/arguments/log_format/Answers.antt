use Rattle.std.proofs.Common.{◌∙◌, ap, codes}
use Rattle.server_options.specs.CommandLine.{with_default, with_parser_of}
use Rattle.server_options.proofs.arguments.log_format.Goals as goal

pub returns : goal.returns
returns c = (
  _,
  (
    c.defaulted.ensures.rule ∙ ap (with_default (codes "text")) (c.parsed.ensures.rule ∙ ap (with_parser_of _) c.valued-format.ensures.0),
    c.defaulted.ensures.local ∙ c.parsed.ensures.local ∙ c.valued-format.ensures.1,
  ),
)
