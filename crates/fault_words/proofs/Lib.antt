pub mod NamedPointLemmas
