mod PathLemmas
mod NameLemmas
mod HeadLemmas
mod AnswerLemmas
mod FaultLemmas
mod CodeLemmas
