mod GivenLemmas
mod RequestLemmas
