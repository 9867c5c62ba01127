pub mod CountedExchangeLemmas
pub mod Greatest
