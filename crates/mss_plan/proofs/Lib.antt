pub mod CertificateSize
pub mod NoCycle
pub mod LegalPlan
