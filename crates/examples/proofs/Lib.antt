pub mod ForkLemmas
