mod FactLemmas
mod OverlapLemmas
mod RangeLemmas
mod Sampled
