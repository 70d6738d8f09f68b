mod RunLemmas
mod CompleteLemmas
mod LogLemmas
mod DeliveryLemmas
mod AnswerLemmas
